-- What a world comes to.
use Rattle.std.specs.Prelude.{◌≡◌, Bool, true, false, Err}
use Rattle.dataflow_laws.specs.declared.step.Step.{Step}
use Rattle.dataflow_laws.specs.Progress.{IsFinished}
use Rattle.core_steps.specs.Given.{layout_in}
use Rattle.core_steps.specs.World.{WorldData, world_in}
use Rattle.task_steps.specs.declared.fault.StepFault.TheVariants.{Memory}
use Rattle.core_steps.specs.Answers.{LeadsTo, CanMake, StepAnswers}

-- a world has come to where all its tasks are done
pub record HasRun (old new : WorldData) : Type 0 where
  pub given : new.given ≡ old.given
  pub going : new.has_failed ≡ false
  pub finished : IsFinished (layout_in new.given) (world_in new)

-- a step was made
pub record HasMoved (old new : WorldData) : Type 0 where
  pub going : new.has_failed ≡ false
  pub step : Step
  pub leads : LeadsTo old step (world_in new)

-- a step was made, if it is said so; else nothing has changed
pub record IsTry (old new : WorldData) (made : Bool) : Type 0 where
  pub going : new.has_failed ≡ false
  pub moved : made ≡ true → HasMoved old new
  pub kept : made ≡ false → new ≡ old

-- this step was made, if it is said so; else there is none, and nothing has changed
pub record IsTryOf (step : Step) (old new : WorldData) (made : Bool) : Type 0 where
  pub going : new.has_failed ≡ false
  pub moved : made ≡ true → LeadsTo old step (world_in new)
  pub kept : made ≡ false → new ≡ old
  pub none : made ≡ false → CanMake old step → ⊥

-- a step was made, if it is said so; else there is none, and nothing has changed
pub record IsTryOfAll (old new : WorldData) (made : Bool) : Type 0 where
  pub going : new.has_failed ≡ false
  pub moved : made ≡ true → HasMoved old new
  pub kept : made ≡ false → new ≡ old
  pub none : made ≡ false → (step : Step) → CanMake old step → ⊥

-- where the new world has failed, memory was refused for a step of the old one, and none was made before it
abbrev pub Refuses : WorldData → WorldData → Type 0
Refuses old new = new.has_failed ≡ true → (step : Step) × StepAnswers step old new (Err Memory)
