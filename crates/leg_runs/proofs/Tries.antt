-- What a try to make a step comes to.
use Rattle.std.proofs.Common.{◌≡◌, Bool, true, false, Result, Ok, Err, OnErr, refl, sym, subst}
use Rattle.std.proofs.lemmas.Bool.{false≢true}
use Rattle.dataflow_laws.specs.declared.step.Step.{Step}
use Rattle.task_steps.specs.declared.fault.StepFault.{StepFault}
use Rattle.task_steps.specs.declared.fault.StepFault.TheVariants.{NotEnabled}
use Rattle.core_steps.specs.World.{WorldData}
use Rattle.core_steps.specs.Answers.{CanMake, StepAnswers}
use Rattle.leg_runs.specs.Running.{HasMoved, IsTry, IsTryOf, IsTryOfAll}

-- a step was made
pub by_move : (old new : WorldData) → HasMoved old new → IsTry old new true
by_move old new moved = record { going = moved.going; moved = λ _. moved; kept = λ e. absurd (false≢true (sym e)) }

pub by_step : (step : Step) (old new : WorldData) (made : Bool) → IsTryOf step old new made → made ≡ true → IsTry old new true
by_step step old new made tried was = by_move old new (record { going = tried.going; step = step; leads = tried.moved was })

pub by_any : (old new : WorldData) → HasMoved old new → IsTryOfAll old new true
by_any old new moved = record { going = moved.going; moved = λ _. moved; kept = λ e. absurd (false≢true (sym e)); none = λ e. absurd (false≢true (sym e)) }

-- there is none
pub refused : (step : Step) (old new : WorldData) (fault : StepFault) → fault ≡ NotEnabled → StepAnswers step old new (Err fault) → IsTryOf step old new false
refused step old new fault is answers =
    let said : StepAnswers step old new (Err NotEnabled) = subst (λ f. StepAnswers step old new (Err f)) is answers in
    record {
      going = subst (λ (w : WorldData). w.has_failed ≡ false) (sym said.1) said.0;
      moved = λ e. absurd (false≢true e);
      kept = λ _. said.1;
      none = λ _ can. said.2 can.0 can.1;
    }

pub no_step : (old : WorldData) → old.has_failed ≡ false → ((step : Step) → CanMake old step → ⊥) → IsTryOfAll old old false
no_step old going none = record { going = going; moved = λ e. absurd (false≢true e); kept = λ _. refl; none = λ _. none }

-- what holds anyway holds of an error
pub on_err : {X E : Type 0} (r : Result X E) (P : Type 0) → P → OnErr r P
on_err (Ok x) P h = tt
on_err (Err e) P h = h
