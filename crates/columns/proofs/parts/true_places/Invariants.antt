use Rattle.std.proofs.Common.{◌≡◌, take}
use Rattle.std.specs.List.{range_with_len}
use Rattle.columns.specs.Parts.{kept}
use Rattle.columns.proofs.parts.true_places.Given as goal

abbrev pub invariant-loop-place : goal.invariant-loop-place
invariant-loop-place l = l.places.items ≡ kept (take l.place l.mask) (range_with_len 0 l.place)
