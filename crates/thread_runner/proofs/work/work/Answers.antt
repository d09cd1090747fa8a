use Rattle.std.proofs.Common.{refl}
use Rattle.thread_runner.proofs.WorkLemmas.{works_none, works_on, works_fault, works_on_fault, left_same}
use Rattle.thread_runner.proofs.work.work.Goals as goal

pub loop-preserved-in-Ok-true : goal.loop-preserved-in-Ok-true
loop-preserved-in-Ok-true g c = works_on c.args.input.now c.loop.invariant c.in-Ok-true.ensures.ok

pub loop-preserved : goal.loop-preserved
loop-preserved g c = works_on c.args.input.now c.loop.invariant c.in-Ok-false.ensures.ok

pub returns-then-load-clause-fault : goal.returns-then-load-clause-fault
returns-then-load-clause-fault g c = (refl, works_fault c.args.input.now c.loop.invariant (left_same c.loop.task))

pub returns-in-Err-clause-fault : goal.returns-in-Err-clause-fault
returns-in-Err-clause-fault g c = (refl, works_on_fault c.args.input.now c.loop.invariant c.in-Err.ensures.err)

pub loop-init : goal.loop-init
loop-init g c = works_none c.args.input.now c.args.task.now c.args.inputs.now c.args.outputs.now
