use Rattle.core_steps.proofs.Passed.{IsLeastOf}
use Rattle.core_steps.proofs.sealing.barriers_passed.Given as goal

abbrev pub invariant-loop-task : goal.invariant-loop-task
invariant-loop-task l = IsLeastOf l.least l.task-index l.tasks
