use Rattle.std.proofs.Common.{◌≡◌, ℕ, map}
use Rattle.std.specs.List.{range_with_len}
use Rattle.dataflow_model.specs.State.{State}
use Rattle.layout_rules.specs.Layouts.{partition_counts}
use Rattle.aggregates.specs.Kinds.{kind_of}
use Rattle.leg_tasks.specs.Leaving.{part_left, state_at, HaveStates}
use Rattle.leg_tasks.proofs.leaving.parts_left.Given as goal

abbrev pub invariant-loop-number : goal.invariant-loop-number
invariant-loop-number l = (states : ℕ → State) → HaveStates l.layout.stages l.tasks states → l.parts.items ≡ map (λ t. part_left (partition_counts l.plan) (map kind_of l.plan.window.aggregates) l.layout.stages t (state_at l.at (states t))) (range_with_len 0 l.number)
