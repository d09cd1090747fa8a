use Rattle.std.proofs.Common.{◌≡◌, ◌≤◌, map, length}
use Rattle.plan_record.specs.PlanRecord.{bound_of, placed}
use Rattle.plan_record.proofs.bounds.bounds_at.Given as goal

abbrev pub invariant-loop-uid : goal.invariant-loop-uid
invariant-loop-uid l = record {
  says : l.bounds.items ≡ placed 0 (map (bound_of l.sources) (map (λ uid. uid.now) (map (λ uid. uid.now) l.yielded)));
  place : l.place ≡ length l.yielded;
  few : length l.bounds.items ≤ length l.yielded;
}
