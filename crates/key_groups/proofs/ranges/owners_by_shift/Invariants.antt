use Rattle.std.proofs.Common.{◌≡◌, ◌*◌, ◌/◌, ◌^◌, ◌<◌, ◌≤◌, ℕ, get_or}
use Rattle.key_groups.proofs.ranges.owners_by_shift.Given as goal

abbrev pub invariant-loop-group : goal.invariant-loop-group
invariant-loop-group l = record {
  done : (k : ℕ) → k < l.group-index → get_or l.groups k 0 ≡ get_or l.initial.groups k 0 * l.par / 2 ^ l.bits;
  rest : (k : ℕ) → l.group-index ≤ k → get_or l.groups k 0 ≡ get_or l.initial.groups k 0;
}
