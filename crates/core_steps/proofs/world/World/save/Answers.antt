use Rattle.dataflow_laws.specs.declared.step.Step.TheVariants.{Save}
use Rattle.core_steps.specs.World.{world_view}
use Rattle.core_steps.proofs.Local.{answers_of, no_task, save_goes}
use Rattle.core_steps.proofs.world.World.save.Goals as goal

pub invariant_of-self-2 : goal.invariant_of-self-2
invariant_of-self-2 c =
    (save_goes (world_view c.self.inside) c.args.task c.in-Some.source.now c.save-answer.new.self c.save-answer.result c.self.invariant c.if-self.false c.in-Some.ensures.item.3.0 c.in-Some.ensures.value _ c.found_no_memory-self-inside.ensures c.save-answer.ensures).world

pub returns-in_default : goal.returns-in_default
returns-in_default c = no_task (Save c.args.task) (world_view c.self.inside) c.args.self.now c.self.invariant c.if-self.false c.self.view_is c.in_default.ensures.item.3

pub returns : goal.returns
returns c =
    let goes = save_goes (world_view c.self.inside) c.args.task c.in-Some.source.now c.save-answer.new.self c.save-answer.result c.self.invariant c.if-self.false c.in-Some.ensures.item.3.0 c.in-Some.ensures.value _ c.found_no_memory-self-inside.ensures c.save-answer.ensures in
    answers_of (Save c.args.task) (world_view c.self.inside) c.args.self.now _ c.save-answer.result c.self.view_is goes
