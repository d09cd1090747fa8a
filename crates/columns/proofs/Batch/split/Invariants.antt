use Rattle.std.proofs.Common.{◌≡◌, map}
use Rattle.std.specs.List.{range_with_len}
use Rattle.columns.specs.Parts.{piece}
use Rattle.columns.proofs.Batch.split.Given as goal

abbrev pub invariant-loop-places : goal.invariant-loop-places
invariant-loop-places l = l.pieces.items ≡ map (piece l.targets l.self) (range_with_len 0 l.places-index)
