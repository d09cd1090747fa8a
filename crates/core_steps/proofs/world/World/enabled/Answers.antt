use Rattle.dataflow_laws.specs.declared.step.Step.TheVariants.{Open, Read, Save, Stop, Close, Take, Put}
use Rattle.core_steps.specs.World.{world_view}
use Rattle.core_steps.proofs.Ready.{enabled_by, take_enabled, put_enabled}
use Rattle.core_steps.proofs.world.World.enabled.Goals as goal

pub returns-in-Open : goal.returns-in-Open
returns-in-Open c = enabled_by (world_view c.self.inside) c.args.self.now c.args.step (Open c.in-Open.task) c.can_open.result c.if-self.false c.self.view_is c.in-Open.is c.can_open.ensures

pub returns-in-Read : goal.returns-in-Read
returns-in-Read c = enabled_by (world_view c.self.inside) c.args.self.now c.args.step (Read c.in-Read.task c.in-Read.partition) c.can_read.result c.if-self.false c.self.view_is c.in-Read.is c.can_read.ensures

pub returns-in-Save : goal.returns-in-Save
returns-in-Save c = enabled_by (world_view c.self.inside) c.args.self.now c.args.step (Save c.in-Save.task) c.can_save.result c.if-self.false c.self.view_is c.in-Save.is c.can_save.ensures

pub returns-in-Stop : goal.returns-in-Stop
returns-in-Stop c = enabled_by (world_view c.self.inside) c.args.self.now c.args.step (Stop c.in-Stop.task) c.can_stop.result c.if-self.false c.self.view_is c.in-Stop.is c.can_stop.ensures

pub returns-in-Close : goal.returns-in-Close
returns-in-Close c = enabled_by (world_view c.self.inside) c.args.self.now c.args.step (Close c.in-Close.task) c.can_close.result c.if-self.false c.self.view_is c.in-Close.is c.can_close.ensures

pub returns-in-Take : goal.returns-in-Take
returns-in-Take c =
    enabled_by (world_view c.self.inside) c.args.self.now c.args.step (Take c.in-Take.task c.in-Take.input) c.is_some.result c.if-self.false c.self.view_is c.in-Take.is
    (take_enabled (world_view c.self.inside) c.args.self.now c.in-Take.task c.in-Take.input c.sender.result c.is_some.result c.self.invariant c.if-self.false c.self.view_is c.is_some.ensures c.sender.ensures)

pub returns-in-Put : goal.returns-in-Put
returns-in-Put c =
    enabled_by (world_view c.self.inside) c.args.self.now c.args.step (Put c.in-Put.task) c.is_some-in-Put.result c.if-self.false c.self.view_is c.in-Put.is
    (put_enabled (world_view c.self.inside) c.args.self.now c.in-Put.task c.receiver.result c.is_some-in-Put.result c.self.invariant c.self.view_is c.is_some-in-Put.ensures c.receiver.ensures)
