-- The steps that touch no ring, each with what its task answers.
use Rattle.std.proofs.Common.{◌≡◌, ℕ, ◌<◌, ◌≤◌, false, true, length, get_or, set, Bool, refl, sym, ap, subst, ◌∙◌, arith}
use Rattle.std.specs.Prelude.{Result, Err, IfErr}
use Rattle.dataflow_model.specs.Role.{is_source}
use Rattle.dataflow_model.specs.Steps.{Open, Read, Save, Stop, Close, CanOpen, CanRun, MayRead, MaySave, MayStop, MayClose}
use Rattle.dataflow_laws.specs.declared.step.Step.{Step}
use Rattle.dataflow_laws.specs.declared.step.Step.TheVariants as step
use Rattle.dataflow_laws.specs.StepTask.{task_of}
use Rattle.dataflow_laws.specs.World as flow
use Rattle.task_steps.specs.declared.fault.StepFault.{StepFault}
use Rattle.task_steps.specs.declared.fault.StepFault.TheVariants.{NotEnabled, Memory}
use Rattle.task_steps.specs.TaskData.{TaskData, Stands}
use Rattle.task_steps.specs.Reading.{ReadsFrom}
use Rattle.task_steps.specs.Answers.{Answers}
use Rattle.core_steps.specs.Given.{layout_in}
use Rattle.core_steps.specs.World.{WorldData, world_in, IsWorld}
use Rattle.core_steps.specs.Answers.{LeadsTo, StepAnswers, is_memory}
use Rattle.core_steps.proofs.States.{move_task}
use Rattle.core_steps.proofs.Worlds.{Goes, after, placed_at, inside}
use Rattle.core_steps.proofs.Inner.{inner_goes, quiet_goes, asks_for}

-- what was found of a world is an answer for the same world
pub answers_of : (step : Step) (w old new : WorldData) (r : Result (Unit {0}) StepFault) → w ≡ old → Goes step w new r → StepAnswers step old new r
answers_of step w old new r same goes = subst (λ v. StepAnswers step v new r) same goes.answers

-- nothing leads on where there is no such task
pub none_missing : (step : Step) (w old : WorldData) → IsWorld w → w ≡ old → length w.tasks ≤ task_of step → (next : flow.World) → LeadsTo old step next → ⊥
none_missing step w old h same few next leads =
    let here = subst (λ v. LeadsTo v step next) (sym same) leads in
    let l = inside w (task_of step) h (move_task w.given.plan (layout_in w.given) w.given.layout.capacity (world_in w) (task_of step) here.event next here.move) in
    omega (arith, l, few)

-- there is no such task
pub no_task : (step : Step) (w old : WorldData) → IsWorld w → w.has_failed ≡ false → w ≡ old → length w.tasks ≤ task_of step → StepAnswers step old w (Err NotEnabled)
no_task step w old h fine same few = (ap (λ (v : WorldData). v.has_failed) (sym same) ∙ fine, same, none_missing step w old h same few)

module _ (w : WorldData) (t : ℕ) (d d' : TaskData) (r : Result (Unit {0}) StepFault) (h : IsWorld w) (fine : w.has_failed ≡ false) (l : t < length w.tasks) (is : d ≡ get_or w.tasks t d) where
  pub open_goes : Answers (λ p k. Stands p k d) (λ p k s. CanOpen k s) Open d d' r → IfErr r (λ fault. fault ≡ Memory → ⊥) → Goes (step.Open t) w (record w { tasks = set w.tasks t d' }) r
  open_goes a none = quiet_goes (step.Open t) w t d d' Open (λ p k. Stands p k d) r none h fine l is (asks_for (step.Open t) w t Open refl refl (λ e e_is. e_is)) tt (placed_at w t d h l is).stands a

  pub stop_goes : Answers (λ p k. Stands p k d) (λ p k s. CanRun k s × MayStop k.ending k s) Stop d d' r → IfErr r (λ fault. fault ≡ Memory → ⊥) → Goes (step.Stop t) w (record w { tasks = set w.tasks t d' }) r
  stop_goes a none = quiet_goes (step.Stop t) w t d d' Stop (λ p k. Stands p k d) r none h fine l is (asks_for (step.Stop t) w t Stop refl refl (λ e e_is. e_is)) tt (placed_at w t d h l is).stands a

  pub close_goes : Answers (λ p k. Stands p k d) (λ p k s. CanRun k s × MayClose k.ending k s) Close d d' r → IfErr r (λ fault. fault ≡ Memory → ⊥) → Goes (step.Close t) w (record w { tasks = set w.tasks t d' }) r
  close_goes a none = quiet_goes (step.Close t) w t d d' Close (λ p k. Stands p k d) r none h fine l is (asks_for (step.Close t) w t Close refl refl (λ e e_is. e_is)) tt (placed_at w t d h l is).stands a

  pub read_goes : (q : ℕ) (f : Bool) → f ≡ is_memory r → Answers (λ p k. Stands p k d × (is_source d.setup.role ≡ true → ReadsFrom k d.setup w.given.input)) (λ p k s. MayRead k s q) (Read q) d d' r → Goes (step.Read t q) w (after w t d' w.rings f) r
  read_goes q f failed a =
      let placed = placed_at w t d h l is in
      subst (λ b. Goes (step.Read t q) w (after w t d' w.rings b) r) (sym failed)
      (inner_goes (step.Read t q) w t d d' (Read q) (λ p k. Stands p k d × (is_source d.setup.role ≡ true → ReadsFrom k d.setup w.given.input)) r h fine l is (asks_for (step.Read t q) w t (Read q) refl refl (λ e e_is. e_is)) tt (placed.stands, placed.reads) a)

  pub save_goes : (f : Bool) → f ≡ is_memory r → Answers (λ p k. Stands p k d) (λ p k s. CanRun k s × MaySave k s) Save d d' r → Goes (step.Save t) w (after w t d' w.rings f) r
  save_goes f failed a =
      subst (λ b. Goes (step.Save t) w (after w t d' w.rings b) r) (sym failed)
      (inner_goes (step.Save t) w t d d' Save (λ p k. Stands p k d) r h fine l is (asks_for (step.Save t) w t Save refl refl (λ e e_is. e_is)) tt (placed_at w t d h l is).stands a)
