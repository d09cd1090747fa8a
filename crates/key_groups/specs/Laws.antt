-- How ranges of groups and their owners go together.
use Rattle.std.specs.Prelude.{ℕ, ◌≡◌, ◌↔◌, ◌+◌, ◌-◌, ◌<◌, ◌≤◌}
use Rattle.key_groups.specs.declared.ranges.GroupRange.{GroupRange}
use Rattle.key_groups.specs.Ranges.{group_range, group_owner}

-- the range has the group
abbrev pub Has : GroupRange → ℕ → Type 0
Has range group = (range.first ≤ group) × (group ≤ range.last)

-- a subtask owns a group exactly where its range has the group
abbrev pub OwnersHaveRanges : Type 0
OwnersHaveRanges = (max par i group : ℕ) → 1 ≤ par → par ≤ max → i < par → group < max
    → (group_owner max par group ≡ i) ↔ Has (group_range max par i) group

-- the ranges of par subtasks follow one another, none of them empty, from group 0 to the last
pub record Follow (max par : ℕ) : Type 0 where
  pub begins : (group_range max par 0).first ≡ 0
  pub next : (i : ℕ) → i + 1 < par → (group_range max par (i + 1)).first ≡ (group_range max par i).last + 1
  pub some : (i : ℕ) → i < par → (group_range max par i).first ≤ (group_range max par i).last
  pub ends : (group_range max par (par - 1)).last + 1 ≡ max

abbrev pub RangesFollow : Type 0
RangesFollow = (max par : ℕ) → 1 ≤ par → par ≤ max → Follow max par
