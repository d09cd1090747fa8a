use Rattle.std.proofs.Common.{◌≡◌, List, [], ◌∷◌, ◌++◌, map, ap, sym, subst, ◌∙◌, All}
use Rattle.std.proofs.lemmas.List.{map-append}
use Rattle.std.proofs.lemmas.List.Elements.{All-push}
use Rattle.task_steps.specs.TaskData.{TaskData}
use Rattle.thread_runner.specs.declared.jobs.Job.{Job}
use Rattle.thread_runner.specs.Edges.{job_task}
use Rattle.thread_runner.specs.Legs.{IsBare}
use Rattle.thread_runner.proofs.wiring.jobs_of.Goals as goal

pub loop-task-preserved : goal.loop-task-preserved
loop-task-preserved c =
    subst (λ (l : List Job). (map job_task l ≡ c.loop-task.yielded ++ c.in-Some.task ∷ []) × All IsBare l) (sym c.in_ok-push.ensures.items) (
      map-append job_task c.loop-task.jobs.items (_ ∷ []) ∙ ap (λ (l : List TaskData). l ++ c.in-Some.task ∷ []) c.loop-task.invariant.0,
      All-push IsBare c.loop-task.jobs.items _ c.loop-task.invariant.1 (c.new-in-loop-task.ensures.items, c.new.ensures.items),
    )
