use Rattle.plan_model.specs.Places.{texts}
use Rattle.logical_plan.proofs.Distinct.{next_new, next_again}
use Rattle.logical_plan.proofs.places.places_of.Goals as goal

pub returns-then-not-is_new : goal.returns-then-not-is_new
returns-then-not-is_new c =
    next_again (λ uid. uid.now) c.args.uids.now c.loop-uid.uid-index _ (texts c.loop-uid.places) c.in_ok-is_new.is_new c.loop-uid-test.true c.loop-uid.invariant.added c.if-not-is_new.true c.in_ok-is_new.ensures.added

pub loop-uid-preserved : goal.loop-uid-preserved
loop-uid-preserved c =
    let next = next_new (λ uid. uid.now) c.args.uids.now c.loop-uid.uid-index _ (texts c.loop-uid.places) (texts c.add.new.places) c.in_ok-is_new.is_new c.loop-uid-test.true c.loop-uid.invariant.added c.loop-uid.invariant.distinct c.if-not-is_new.false c.in_ok-is_new.ensures.added c.in_ok-is_new.ensures.texts in
    record { added = next.0; distinct = next.1 }
