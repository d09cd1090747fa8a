use Rattle.thread_runner.specs.Works.{Works}
use Rattle.thread_runner.proofs.work.work.Given as goal

abbrev pub invariant-loop : goal.invariant-loop
invariant-loop g l = Works l.input l.fn.task l.fn.inputs l.fn.outputs l.task l.inputs l.outputs
