use Rattle.dataflow_laws.specs.declared.step.Step.TheVariants.{Open}
use Rattle.core_steps.specs.World.{world_view}
use Rattle.core_steps.proofs.Local.{answers_of, no_task, open_goes}
use Rattle.core_steps.proofs.world.World.open.Goals as goal

pub invariant_of-self-2 : goal.invariant_of-self-2
invariant_of-self-2 c =
    (open_goes (world_view c.self.inside) c.args.task c.in-Some.source.now c.open.new.self c.open.result c.self.invariant c.if-self.false c.in-Some.ensures.item.3.0 c.in-Some.ensures.value c.open.ensures.steps c.open.ensures.no_memory).world

pub returns-in_default : goal.returns-in_default
returns-in_default c = no_task (Open c.args.task) (world_view c.self.inside) c.args.self.now c.self.invariant c.if-self.false c.self.view_is c.in_default.ensures.item.3

pub returns : goal.returns
returns c =
    let goes = open_goes (world_view c.self.inside) c.args.task c.in-Some.source.now c.open.new.self c.open.result c.self.invariant c.if-self.false c.in-Some.ensures.item.3.0 c.in-Some.ensures.value c.open.ensures.steps c.open.ensures.no_memory in
    answers_of (Open c.args.task) (world_view c.self.inside) c.args.self.now _ c.open.result c.self.view_is goes
