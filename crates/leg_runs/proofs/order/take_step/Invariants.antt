use Rattle.std.proofs.Common.{ℕ, ◌<◌}
use Rattle.dataflow_laws.specs.declared.step.Step.TheVariants.{Take}
use Rattle.core_steps.specs.Answers.{CanMake}
use Rattle.leg_runs.proofs.order.take_step.Given as goal

abbrev pub invariant-loop-input : goal.invariant-loop-input
invariant-loop-input l = (k : ℕ) → k < l.input → CanMake l.world (Take l.task k) → ⊥
