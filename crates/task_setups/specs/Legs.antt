-- The leg that the code is told of.
use Rattle.std.specs.Prelude.{ℕ, length}
use Rattle.dataflow_model.specs.Leg as model
use Rattle.stream_model.specs.InputData.{InputData, partition_at}
use Rattle.legs.specs.Stops.{until_in}
pub use Rattle.legs.specs.Stops.{counts_of}
pub use Rattle.plan_compiler.specs.LayoutData.{IsLayoutOf}
use Rattle.task_setups.specs.declared.leg.Leg.{Leg}

-- how many entries each source and partition of an input has
abbrev pub sizes_of : InputData → ℕ → ℕ → ℕ
sizes_of i x q = length (partition_at i.sources x q)

-- the leg over an input
abbrev pub leg_over : Leg → InputData → model.Leg
leg_over leg i = model.leg_of leg.number (counts_of leg.saves.now) (until_in leg.until) (sizes_of i)
