use Rattle.std.proofs.Common.{◌≡◌, ◌≤◌, ◌+◌, ◌++◌, drop, length, vec_len, vec_capacity}
use Rattle.savepoint_codec.proofs.numbers.push_narrowed.Given as goal

abbrev pub invariant-loop-number : goal.invariant-loop-number
invariant-loop-number l = record {
  items : l.numbers.items ++ drop l.number-index l.more ≡ l.fn.numbers.items ++ l.more;
  room : vec_len l.numbers + length (drop l.number-index l.more) ≤ vec_capacity l.numbers;
}
