use Rattle.std.proofs.Common.{◌≡◌, ◌%◌, ◌<◌, ◌≤◌, ℕ, get_or}
use Rattle.key_groups.proofs.group.divided.Given as goal

abbrev pub invariant-loop-hash : goal.invariant-loop-hash
invariant-loop-hash l = record {
  done : (k : ℕ) → k < l.hash-index → get_or l.hashes k 0 ≡ get_or l.initial.hashes k 0 % l.groups;
  rest : (k : ℕ) → l.hash-index ≤ k → get_or l.hashes k 0 ≡ get_or l.initial.hashes k 0;
}
