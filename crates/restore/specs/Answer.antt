-- What the check of a savepoint answers.
use Rattle.std.specs.Prelude.{Bool, true, false, List, Option, Result}
use Rattle.answers.specs.Answer.{value_or_fault}
pub use Rattle.answers.specs.Answer.{Gives}
use Rattle.plan_model.specs.PlanData.{PlanData}
use Rattle.savepoint_codec.specs.declared.savepoint.Contents.{Contents}
use Rattle.stream_model.specs.InputData.{InputData}
use Rattle.redistribute.specs.StartData.{StartData}
use Rattle.legs.specs.declared.restore_fault.RestoreFault.{RestoreFault}
use Rattle.legs.specs.declared.restore_fault.RestoreFault.TheVariants.{Memory}
use Rattle.restore.specs.Saved.{saved_sources}
use Rattle.restore.specs.Requirements.{requirements}

-- the start from a savepoint: its number, how far it has each of the plan's partitions, its kinds of aggregates and its
-- entries
abbrev pub start_of : PlanData → Contents → StartData
start_of plan s = record { number = s.number; sources = saved_sources plan s; kinds = s.kinds; groups = s.groups }

-- whether requirements are met, or the fault of the first that is not
abbrev pub met_or_fault : List (Contents → Option RestoreFault) → Contents → Result (Unit {0}) RestoreFault
met_or_fault required = value_or_fault required (λ s. tt)

-- that start, or the fault of the first requirement that the savepoint does not meet
abbrev pub start_or_fault : PlanData → InputData → Contents → Result StartData RestoreFault
start_or_fault plan i = value_or_fault (requirements plan i) (start_of plan)

-- the fault that says nothing of the savepoint
abbrev pub is_memory : RestoreFault → Bool
is_memory Memory = true
is_memory fault = false
