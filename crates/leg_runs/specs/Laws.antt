-- What holds of the steps of all worlds.
use Rattle.std.specs.Prelude.{◌≡◌, ℕ, Some, slice_get}
use Rattle.dataflow_laws.specs.declared.step.Step.{Step}
use Rattle.core_steps.specs.World.{WorldData, IsSound}
use Rattle.core_steps.specs.Answers.{CanMake}
use Rattle.leg_runs.specs.Choosing.{all_steps}

-- each step that could be made stands among all that tasks may be asked for
abbrev pub StepsAreListed : Type 0
StepsAreListed = (w : WorldData) → IsSound w.given → (step : Step) → CanMake w step → (k : ℕ) × (slice_get (all_steps w.given.layout) k ≡ Some step)
