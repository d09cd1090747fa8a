use Rattle.std.proofs.Common.{◌<◌, length, arith}
use Rattle.dataflow_model.specs.Steps.{Takes}
use Rattle.task_steps.specs.TaskData.{Stands}
use Rattle.thread_runner.proofs.WorkLemmas.{works_none, works_take, works_look_in, works_lose, left_of}
use Rattle.thread_runner.proofs.work.take_from.Goals as goal

pub returns-then-not-can_take-clause-ok : goal.returns-then-not-can_take-clause-ok
returns-then-not-can_take-clause-ok c = λ i outs. works_none i c.args.task.now c.args.inputs.now outs

pub returns-then-at-inputs-clause-ok : goal.returns-then-at-inputs-clause-ok
returns-then-at-inputs-clause-ok c = λ i outs. works_none i c.args.task.now c.args.inputs.now outs

pub returns-in_default-clause-ok : goal.returns-in_default-clause-ok
returns-in_default-clause-ok c = λ i outs.
    works_look_in i c.args.task.now c.args.inputs.now outs c.args.input c.index-inputs-at.result c.take.new.self c.take.ensures.same c.in_default.ensures.taken

pub returns-in-Ok-clause-ok : goal.returns-in-Ok-clause-ok
returns-in-Ok-clause-ok c =
    let lt : c.args.input < length c.args.inputs.now = omega arith in λ i outs.
    works_take i c.args.inputs.now outs c.args.input c.in-Some.message c.index-inputs-at.result c.take.new.self lt c.take.ensures.same c.in-Some.ensures.taken c.in-Ok.ensures.1 c.in-Ok.ensures.2

pub returns-in-Err-clause-err : goal.returns-in-Err-clause-err
returns-in-Err-clause-err c =
    let lt : c.args.input < length c.args.inputs.now = omega arith in λ i outs.
    works_lose i c.args.task.now c.take-2.new.self c.args.inputs.now outs c.args.input c.in-Some.message c.index-inputs-at.result c.take.new.self lt c.take.ensures.same c.in-Some.ensures.taken
    (left_of (λ p k. Stands p k c.args.task.now) (λ p k s. Takes p k s c.args.input c.in-Some.message) _ _ _ c.in-Err.fault c.in-Err.ensures) (c.can_take.ensures.0 c.if-not-can_take.false)
