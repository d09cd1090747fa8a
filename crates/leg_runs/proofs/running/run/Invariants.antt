use Rattle.std.proofs.Common.{◌≡◌, false}
use Rattle.dataflow_laws.specs.Measure.{world_cost}
use Rattle.core_steps.specs.Given.{layout_in}
use Rattle.core_steps.specs.World.{world_in, IsWorld}
use Rattle.leg_runs.specs.Choosing.{MakesSteps}
use Rattle.leg_runs.proofs.running.run.Given as goal

abbrev pub invariant-loop-hints : goal.invariant-loop-hints
invariant-loop-hints l = record { given : l.world.given ≡ l.fn.world.given; going : l.world.has_failed ≡ false; sound : IsWorld l.world; steps : MakesSteps l.fn.world l.world }

abbrev pub decreases-loop-hints : goal.decreases-loop-hints
decreases-loop-hints l = world_cost (layout_in l.world.given) (world_in l.world)
