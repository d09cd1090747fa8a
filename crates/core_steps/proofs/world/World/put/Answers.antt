use Rattle.std.proofs.Common.{sym, subst}
use Rattle.dataflow_laws.specs.declared.step.Step.TheVariants.{Put}
use Rattle.core_steps.specs.World.{world_view}
use Rattle.core_steps.specs.RingSteps.{IsPuttable}
use Rattle.core_steps.proofs.Local.{answers_of}
use Rattle.core_steps.proofs.Putting.{put_goes}
use Rattle.core_steps.proofs.Refusing.{receiver_in, room_there, not_idle}
use Rattle.core_steps.proofs.world.World.put.Goals as goal

pub returns-in_default-pop_pending : goal.returns-in_default-pop_pending
returns-in_default-pop_pending c =
    let can = subst (λ w. IsPuttable w c.args.task c.in-Some.receiver) (sym c.self.view_is) c.in-Some.ensures in
    absurd (not_idle (world_view c.self.inside) c.args.task c.in-Some.receiver c.in-Some-get_mut.sender.now can c.in-Some-get_mut.ensures.value c.in_default-pop_pending.ensures.0)

pub put-requires-clause-receiver : goal.put-requires-clause-receiver
put-requires-clause-receiver c = receiver_in (world_view c.self.inside) c.args.task c.in-Some.receiver c.self.invariant (subst (λ w. IsPuttable w c.args.task c.in-Some.receiver) (sym c.self.view_is) c.in-Some.ensures)

pub put-requires-clause-room : goal.put-requires-clause-room
put-requires-clause-room c = room_there (world_view c.self.inside) c.args.task c.in-Some.receiver c.self.invariant (subst (λ w. IsPuttable w c.args.task c.in-Some.receiver) (sym c.self.view_is) c.in-Some.ensures)

pub invariant_of-self-2 : goal.invariant_of-self-2
invariant_of-self-2 c =
    let can = subst (λ w. IsPuttable w c.args.task c.in-Some.receiver) (sym c.self.view_is) c.in-Some.ensures in
    (put_goes (world_view c.self.inside) c.args.task c.in-Some.receiver c.in-Some-pop_pending.field-0-0 c.in-Some-pop_pending.message c.in-Some-get_mut.sender.now c.pop_pending.new.self c.put.new.self tt c.self.invariant c.if-self.false can c.in-Some-get_mut.ensures.value c.in-Some-pop_pending.ensures c.put.ensures).world

pub returns : goal.returns
returns c =
    let can = subst (λ w. IsPuttable w c.args.task c.in-Some.receiver) (sym c.self.view_is) c.in-Some.ensures in
    let goes = put_goes (world_view c.self.inside) c.args.task c.in-Some.receiver c.in-Some-pop_pending.field-0-0 c.in-Some-pop_pending.message c.in-Some-get_mut.sender.now c.pop_pending.new.self c.put.new.self tt c.self.invariant c.if-self.false can c.in-Some-get_mut.ensures.value c.in-Some-pop_pending.ensures c.put.ensures in
    answers_of (Put c.args.task) (world_view c.self.inside) c.args.self.now _ _ c.self.view_is goes
