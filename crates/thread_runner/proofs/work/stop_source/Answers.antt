use Rattle.std.proofs.Common.{refl}
use Rattle.dataflow_model.specs.Steps.{Stop, CanRun, MayStop}
use Rattle.task_steps.specs.TaskData.{Stands}
use Rattle.thread_runner.proofs.WorkLemmas.{works_none, works_inside, works_fault, left_of}
use Rattle.thread_runner.proofs.work.stop_source.Goals as goal

pub returns-in-Ok-clause-ok : goal.returns-in-Ok-clause-ok
returns-in-Ok-clause-ok c = λ i ins outs.
    works_inside i Stop ins outs (λ n. refl) (λ n. refl) c.in-Ok.ensures.steps.1 (λ p k h. c.in-Ok.ensures.steps.2 p k h.stands)

pub returns-in-Err-clause-err : goal.returns-in-Err-clause-err
returns-in-Err-clause-err c = λ i ins outs.
    works_fault i (works_none i c.args.task.now ins outs)
    (left_of (λ p k. Stands p k c.args.task.now) (λ p k s. CanRun k s × MayStop k.ending k s) _ _ _ c.in-Err.fault c.in-Err.ensures.steps)
