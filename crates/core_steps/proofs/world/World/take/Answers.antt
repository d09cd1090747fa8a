use Rattle.std.proofs.Common.{sym, subst}
use Rattle.dataflow_laws.specs.declared.step.Step.TheVariants.{Take}
use Rattle.core_steps.specs.World.{world_view}
use Rattle.core_steps.specs.RingSteps.{IsTakeable}
use Rattle.core_steps.proofs.Local.{answers_of}
use Rattle.core_steps.proofs.Taking.{take_goes}
use Rattle.core_steps.proofs.world.World.take.Goals as goal

pub invariant_of-self-2 : goal.invariant_of-self-2
invariant_of-self-2 c =
    (take_goes (world_view c.self.inside) c.args.task c.args.input c.in-Some.sender c.in-Some-pop.message c.in-Some-get_mut.receiver.now c.pop.new.self c.self.invariant c.if-self.false (subst (λ w. IsTakeable w c.args.task c.args.input c.in-Some.sender) (sym c.self.view_is) c.in-Some.ensures) c.in-Some-pop.ensures c.in-Some-get_mut.ensures.value c.take-answer.new.self c.take-answer.result _ c.found_no_memory-self-inside.ensures c.take-answer.ensures).world

pub returns : goal.returns
returns c =
    let goes = take_goes (world_view c.self.inside) c.args.task c.args.input c.in-Some.sender c.in-Some-pop.message c.in-Some-get_mut.receiver.now c.pop.new.self c.self.invariant c.if-self.false (subst (λ w. IsTakeable w c.args.task c.args.input c.in-Some.sender) (sym c.self.view_is) c.in-Some.ensures) c.in-Some-pop.ensures c.in-Some-get_mut.ensures.value c.take-answer.new.self c.take-answer.result _ c.found_no_memory-self-inside.ensures c.take-answer.ensures in
    answers_of (Take c.args.task c.args.input) (world_view c.self.inside) c.args.self.now _ c.take-answer.result c.self.view_is goes
