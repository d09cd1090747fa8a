use Rattle.std.proofs.Common.{◌<◌, length, get_or, refl, ap, subst, ◌∙◌, arith}
use Rattle.std.proofs.lemmas.Bool.{false≢true}
use Rattle.dataflow_model.specs.Steps.{IsDone}
use Rattle.dataflow_laws.specs.declared.step.Step.{Step}
use Rattle.core_steps.specs.World.{WorldData, world_view}
use Rattle.core_steps.specs.Answers.{CanMake}
use Rattle.core_steps.proofs.Ready.{finished, unfinished, goes_on, one_more_done}
use Rattle.core_steps.proofs.world.World.is_finished.Goals as goal

pub returns-then-not-is_done-clause-done : goal.returns-then-not-is_done-clause-done
returns-then-not-is_done-clause-done c =
    let l = subst (λ xs. c.loop-task.task-index < length xs) c.deref-task-items.ensures.value c.loop-task-test.true in
    let is = c.task-item.is ∙ ap (λ xs. get_or xs c.loop-task.task-index c.task-item.result) c.deref-task-items.ensures.value in
    (λ yes. absurd (false≢true yes), λ all. absurd (unfinished (world_view c.self.inside) c.args.self.now c.loop-task.task-index c.task-item.result c.self.invariant c.self.view_is l is (λ done. false≢true (c.if-not-is_done.ensures.1 done)) all))

pub returns-then-not-is_done-clause-goes_on : goal.returns-then-not-is_done-clause-goes_on
returns-then-not-is_done-clause-goes_on c = λ no fine. (
    let w = world_view c.self.inside in
    let l = subst (λ xs. c.loop-task.task-index < length xs) c.deref-task-items.ensures.value c.loop-task-test.true in
    let is = c.task-item.is ∙ ap (λ xs. get_or xs c.loop-task.task-index c.task-item.result) c.deref-task-items.ensures.value in
    subst (λ v. (step : Step) × CanMake v step) c.self.view_is
    (goes_on w c.self.invariant (ap (λ (v : WorldData). v.has_failed) c.self.view_is ∙ fine)
    (unfinished w w c.loop-task.task-index c.task-item.result c.self.invariant refl l is (λ done. false≢true (c.if-not-is_done.ensures.1 done)))))

pub loop-task-preserved : goal.loop-task-preserved
loop-task-preserved c = one_more_done c.deref-task-items.result.now c.loop-task.task-index c.task-item.result c.loop-task-test.true c.task-item.is c.loop-task.invariant (c.if-not-is_done.ensures.0 refl)

pub returns-clause-done : goal.returns-clause-done
returns-clause-done c =
    let past = c.loop-task-test.false in
    let long = ap length c.deref-task-items.ensures.value in (
      λ yes. finished (world_view c.self.inside) c.args.self.now c.self.invariant c.self.view_is
          (λ t d l. subst (λ xs. IsDone (get_or xs t d).state) c.deref-task-items.ensures.value (c.loop-task.invariant t d (omega (arith, past, long, l)))),
      λ all. refl,
    )
