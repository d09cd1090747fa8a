use Rattle.std.proofs.Common.{List}
use Rattle.stream_model.specs.InputData.{InputData}
use Rattle.thread_runner.specs.declared.ends.Sender.{Sender}
use Rattle.thread_runner.specs.Works.{WorksUpTo}
use Rattle.thread_runner.proofs.WorkLemmas.{works_none, works_on, works_on_fault, on_err}
use Rattle.thread_runner.proofs.work.take_any.Goals as goal

pub loop-init : goal.loop-init
loop-init c = λ i outs. works_none i c.args.task.now c.args.inputs.now outs

pub returns-in_err-take_from-clause-err : goal.returns-in_err-take_from-clause-err
returns-in_err-take_from-clause-err c =
    on_err c.from_residual.result ((i : InputData) (outs : List Sender) → WorksUpTo i c.args.task.now c.args.inputs.now outs c.take_from.new.task c.take_from.new.inputs outs)
    (λ i outs. works_on_fault i (c.loop.invariant i outs) (c.in_err-take_from.ensures.err i outs))

pub returns-then-branch-clause-ok : goal.returns-then-branch-clause-ok
returns-then-branch-clause-ok c = λ i outs. works_on i (c.loop.invariant i outs) (c.in_ok-take_from.ensures.ok i outs)

pub loop-preserved : goal.loop-preserved
loop-preserved c = λ i outs. works_on i (c.loop.invariant i outs) (c.in_ok-take_from.ensures.ok i outs)
