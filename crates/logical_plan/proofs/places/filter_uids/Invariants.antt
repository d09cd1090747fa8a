use Rattle.std.proofs.Common.{◌≡◌, map, take}
use Rattle.logical_plan.proofs.places.filter_uids.Given as goal

abbrev pub invariant-loop-filter : goal.invariant-loop-filter
invariant-loop-filter l = map (λ uid. uid.now) l.uids.items ≡ map (λ x. x.uid) (take l.filter-index l.filters)
