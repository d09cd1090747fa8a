use Rattle.std.proofs.Common.{◌≡◌, take, length}
use Rattle.savepoint_codec.proofs.numbers.copy_narrow.Given as goal

abbrev pub invariant-loop-i : goal.invariant-loop-i
invariant-loop-i l = record {
  done : take l.i l.room ≡ take l.i l.numbers;
  long : length l.room ≡ length l.numbers;
}
