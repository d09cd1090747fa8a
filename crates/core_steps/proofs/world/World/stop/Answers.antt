use Rattle.dataflow_laws.specs.declared.step.Step.TheVariants.{Stop}
use Rattle.core_steps.specs.World.{world_view}
use Rattle.core_steps.proofs.Local.{answers_of, no_task, stop_goes}
use Rattle.core_steps.proofs.world.World.stop.Goals as goal

pub invariant_of-self-2 : goal.invariant_of-self-2
invariant_of-self-2 c =
    (stop_goes (world_view c.self.inside) c.args.task c.in-Some.source.now c.stop.new.self c.stop.result c.self.invariant c.if-self.false c.in-Some.ensures.item.3.0 c.in-Some.ensures.value c.stop.ensures.steps c.stop.ensures.no_memory).world

pub returns-in_default : goal.returns-in_default
returns-in_default c = no_task (Stop c.args.task) (world_view c.self.inside) c.args.self.now c.self.invariant c.if-self.false c.self.view_is c.in_default.ensures.item.3

pub returns : goal.returns
returns c =
    let goes = stop_goes (world_view c.self.inside) c.args.task c.in-Some.source.now c.stop.new.self c.stop.result c.self.invariant c.if-self.false c.in-Some.ensures.item.3.0 c.in-Some.ensures.value c.stop.ensures.steps c.stop.ensures.no_memory in
    answers_of (Stop c.args.task) (world_view c.self.inside) c.args.self.now _ c.stop.result c.self.view_is goes
