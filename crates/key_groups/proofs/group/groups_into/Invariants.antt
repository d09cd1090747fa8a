use Rattle.std.proofs.Common.{◌≡◌, ◌≤◌, ◌-◌, take, map, length}
use Rattle.key_groups.specs.Groups.{key_group}
use Rattle.key_groups.proofs.group.groups_into.Given as goal

abbrev pub invariant-loop-at : goal.invariant-loop-at
invariant-loop-at l = record {
  within : l.at ≤ length l.keys;
  done : take l.at l.out ≡ map (key_group l.max) (take l.at l.keys);
}

abbrev pub decreases-loop-at : goal.decreases-loop-at
decreases-loop-at l = length l.keys - l.at
