use Rattle.std.proofs.Common.{◌≡◌, take}
use Rattle.window_state.proofs.windows.numbers_of.Given as goal

abbrev pub invariant-loop-number : goal.invariant-loop-number
invariant-loop-number l = l.made ≡ take l.number-index l.numbers
