use Rattle.std.proofs.Common.{ℕ, ◌<◌}
use Rattle.std.specs.Prelude.{slice_index}
use Rattle.dataflow_laws.specs.declared.step.Step.TheVariants.{Read}
use Rattle.core_steps.specs.Answers.{CanMake}
use Rattle.leg_runs.proofs.order.read_step.Given as goal

abbrev pub invariant-loop-at : goal.invariant-loop-at
invariant-loop-at l = (k : ℕ) → k < l.at → CanMake l.world (Read l.task (slice_index l.partitions k)) → ⊥
