-- Steps come to an end.
use Rattle.std.proofs.Common.{◌≡◌, ◌<◌, false, sym, subst}
use Rattle.dataflow_laws.specs.declared.step.Step.{Step}
use Rattle.dataflow_laws.specs.StepTask.{task_of}
use Rattle.dataflow_laws.specs.Measure.{world_cost}
use Rattle.dataflow_laws.proofs.Facts.{falls}
use Rattle.core_steps.specs.Given.{GivenData, layout_in, start_in}
use Rattle.core_steps.specs.World.{WorldData, world_in, IsWorld}
use Rattle.core_steps.specs.Answers.{LeadsTo}
use Rattle.core_steps.proofs.Worlds.{history_of}

pub step_falls : (w new : WorldData) (step : Step) → IsWorld w → w.has_failed ≡ false → new.given ≡ w.given → LeadsTo w step (world_in new) → world_cost (layout_in new.given) (world_in new) < world_cost (layout_in w.given) (world_in w)
step_falls w new step world fine same m =
    subst (λ (g : GivenData). world_cost (layout_in g) (world_in new) < world_cost (layout_in w.given) (world_in w)) (sym same)
    (falls w.given.plan (layout_in w.given) w.given.layout.capacity (start_in w.given) (world_in w) (task_of step) m.event (world_in new) world.sound.layout world.sound.start (history_of w world fine) m.move)
