use Rattle.std.proofs.Common.{◌≡◌, map, take}
use Rattle.imports.specs.Placing.{Alone, stand_in}
use Rattle.imports.proofs.placing.single_places.Given as goal

abbrev pub invariant-loop-pick : goal.invariant-loop-pick
invariant-loop-pick l = map stand_in (take l.pick-index l.picks) ≡ map Alone l.places.items
