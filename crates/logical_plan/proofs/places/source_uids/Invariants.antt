use Rattle.std.proofs.Common.{◌≡◌, map, take}
use Rattle.logical_plan.proofs.places.source_uids.Given as goal

abbrev pub invariant-loop-source : goal.invariant-loop-source
invariant-loop-source l = map (λ uid. uid.now) l.uids.items ≡ map (λ x. x.uid) (take l.source-index l.sources)
