use Rattle.std.proofs.Common.{◌≡◌, map, Some}
use Rattle.stream_input.proofs.tokens.filled.Given as goal

abbrev pub invariant-loop-slot : goal.invariant-loop-slot
invariant-loop-slot l = l.yielded ≡ map Some l.found.items
