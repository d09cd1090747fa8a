use Rattle.std.proofs.Common.{◌≡◌, ◌*◌, ◌/◌, ◌<◌, ◌≤◌, ℕ, get_or}
use Rattle.key_groups.proofs.ranges.owners_by_division.Given as goal

abbrev pub invariant-loop-group : goal.invariant-loop-group
invariant-loop-group l = record {
  done : (k : ℕ) → k < l.group-index → get_or l.groups k 0 ≡ get_or l.initial.groups k 0 * l.par / l.max;
  rest : (k : ℕ) → l.group-index ≤ k → get_or l.groups k 0 ≡ get_or l.initial.groups k 0;
}
