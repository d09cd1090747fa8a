use Rattle.std.proofs.Common.{◌≡◌, ◌++◌, pos, map, take, get_or}
use Rattle.columns.proofs.parts.put_numbers.Given as goal

abbrev pub invariant-loop-place : goal.invariant-loop-place
invariant-loop-place l = l.numbers.items ≡ l.fn.numbers.items ++ map (λ place. get_or l.column place (pos 0)) (take l.place-index l.places)
