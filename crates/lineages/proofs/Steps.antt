-- That steps of a leg come to an end.
use Rattle.std.proofs.Common.{◌<◌, sym, subst}
use Rattle.dataflow_laws.specs.Measure.{world_cost}
use Rattle.dataflow_laws.specs.StepTask.{task_of}
use Rattle.dataflow_laws.proofs.Facts.{falls}
use Rattle.core_steps.specs.Given.{GivenData, layout_in, start_in}
use Rattle.core_steps.specs.World.{world_in}
use Rattle.core_steps.proofs.Worlds.{history_of}
use Rattle.lineages.specs.Steps.{steps_left, EachStepFalls}

pub each_step_falls : EachStepFalls
each_step_falls w next step world answers =
    let m = answers.3 in
    subst (λ (g : GivenData). world_cost (layout_in g) (world_in next) < steps_left w) (sym answers.2)
    (falls w.given.plan (layout_in w.given) w.given.layout.capacity (start_in w.given) (world_in w) (task_of step) m.event (world_in next) world.sound.layout world.sound.start (history_of w world answers.0) m.move)
