-- That steps of a leg come to an end.
use Rattle.std.specs.Prelude.{ℕ, ◌<◌, Ok}
use Rattle.dataflow_laws.specs.Measure.{world_cost}
use Rattle.dataflow_laws.specs.declared.step.Step.{Step}
use Rattle.core_steps.specs.Given.{layout_in}
use Rattle.core_steps.specs.World.{WorldData, world_in, IsWorld}
use Rattle.core_steps.specs.Answers.{StepAnswers}

-- more than the steps that a world can still make, in any order
abbrev pub steps_left : WorldData → ℕ
steps_left w = world_cost (layout_in w.given) (world_in w)

-- each step that a world makes leaves fewer
abbrev pub EachStepFalls : Type 0
EachStepFalls = (w next : WorldData) (step : Step) → IsWorld w → StepAnswers step w next (Ok tt) → steps_left next < steps_left w
