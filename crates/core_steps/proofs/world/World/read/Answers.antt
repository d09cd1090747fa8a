use Rattle.dataflow_laws.specs.declared.step.Step.TheVariants.{Read}
use Rattle.core_steps.specs.World.{world_view}
use Rattle.core_steps.proofs.Local.{answers_of, no_task, read_goes}
use Rattle.core_steps.proofs.Worlds.{placed_at}
use Rattle.core_steps.proofs.world.World.read.Goals as goal

pub read-answer-requires-clause-columns : goal.read-answer-requires-clause-columns
read-answer-requires-clause-columns c = (placed_at (world_view c.self.inside) c.args.task c.in-Some.source.now c.self.invariant c.in-Some.ensures.item.3.0 c.in-Some.ensures.value).columns

pub read-answer-requires-clause-time : goal.read-answer-requires-clause-time
read-answer-requires-clause-time c = (placed_at (world_view c.self.inside) c.args.task c.in-Some.source.now c.self.invariant c.in-Some.ensures.item.3.0 c.in-Some.ensures.value).time

pub read-answer-requires-clause-input : goal.read-answer-requires-clause-input
read-answer-requires-clause-input c = (placed_at (world_view c.self.inside) c.args.task c.in-Some.source.now c.self.invariant c.in-Some.ensures.item.3.0 c.in-Some.ensures.value).has

pub invariant_of-self-2 : goal.invariant_of-self-2
invariant_of-self-2 c =
    (read_goes (world_view c.self.inside) c.args.task c.in-Some.source.now c.read-answer.new.self c.read-answer.result c.self.invariant c.if-self.false c.in-Some.ensures.item.3.0 c.in-Some.ensures.value c.args.partition _ c.found_no_memory-self-inside.ensures c.read-answer.ensures).world

pub returns-in_default : goal.returns-in_default
returns-in_default c = no_task (Read c.args.task c.args.partition) (world_view c.self.inside) c.args.self.now c.self.invariant c.if-self.false c.self.view_is c.in_default.ensures.item.3

pub returns : goal.returns
returns c =
    let goes = read_goes (world_view c.self.inside) c.args.task c.in-Some.source.now c.read-answer.new.self c.read-answer.result c.self.invariant c.if-self.false c.in-Some.ensures.item.3.0 c.in-Some.ensures.value c.args.partition _ c.found_no_memory-self-inside.ensures c.read-answer.ensures in
    answers_of (Read c.args.task c.args.partition) (world_view c.self.inside) c.args.self.now _ c.read-answer.result c.self.view_is goes
