use Rattle.std.proofs.Common.{◌≡◌, true, map, take}
use Rattle.plan_model.specs.Uids.{are_distinct}
use Rattle.plan_model.specs.Places.{texts}
use Rattle.logical_plan.proofs.places.places_of.Given as goal

abbrev pub invariant-loop-uid : goal.invariant-loop-uid
invariant-loop-uid l = record {
  added : texts l.places ≡ map (λ uid. uid.now) (take l.uid-index l.uids);
  distinct : are_distinct (texts l.places) ≡ true;
}
