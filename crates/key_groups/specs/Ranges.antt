-- Which groups a subtask has, and which subtask has a group: Flink's `KeyGroupRangeAssignment`.
use Rattle.std.specs.Prelude.{ℕ, ◌+◌, ◌-◌, ◌*◌, ◌/◌}
use Rattle.key_groups.specs.declared.ranges.GroupRange.{GroupRange}

-- `computeKeyGroupRangeForOperatorIndex`, of subtask i of par
abbrev pub group_range : ℕ → ℕ → ℕ → GroupRange
group_range max par i = record { first = (i * max + par - 1) / par; last = ((i + 1) * max - 1) / par }

-- `computeOperatorIndexForKeyGroup`
abbrev pub group_owner : ℕ → ℕ → ℕ → ℕ
group_owner max par group = group * par / max
