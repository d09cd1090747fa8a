-- What a world cannot do.
use Rattle.std.specs.Prelude.{◌≡◌, ℕ}
use Rattle.dataflow_laws.specs.declared.step.Step.{Step}
use Rattle.dataflow_laws.specs.declared.step.Step.TheVariants.{Read, Take}
use Rattle.dataflow_laws.specs.StepTask.{task_of}
use Rattle.core_steps.specs.World.{WorldData}
use Rattle.core_steps.specs.Answers.{CanMake}

-- task t has nothing to read, and nothing to take
abbrev pub CannotRead : WorldData → ℕ → Type 0
CannotRead w t = (q : ℕ) → CanMake w (Read t q) → ⊥

abbrev pub CannotTake : WorldData → ℕ → Type 0
CannotTake w t = (i : ℕ) → CanMake w (Take t i) → ⊥

-- it has no step
abbrev pub CanNothing : WorldData → ℕ → Type 0
CanNothing w t = (step : Step) → task_of step ≡ t → CanMake w step → ⊥
