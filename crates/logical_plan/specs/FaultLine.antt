-- The line of a fault: its code and name.
use Rattle.std.specs.Prelude.{ℕ, List, codes}
use Rattle.logical_plan.specs.declared.fault.PlanFault.{PlanFault}
use Rattle.logical_plan.specs.declared.fault.PlanFault.TheVariants as plan

abbrev pub plan_line : PlanFault → List ℕ
plan_line plan.NotJson = codes "P1 NotJson"
plan_line plan.Member = codes "P2 Member"
plan_line plan.Columns = codes "P3 Columns"
plan_line plan.ColumnIndex = codes "P4 ColumnIndex"
plan_line plan.MaxParallelism = codes "P5 MaxParallelism"
plan_line plan.Sources = codes "P6 Sources"
plan_line plan.Partitions = codes "P7 Partitions"
plan_line plan.Uid = codes "P8 Uid"
plan_line plan.UidTwice = codes "P9 UidTwice"
plan_line plan.Filters = codes "P10 Filters"
plan_line plan.WindowSize = codes "P11 WindowSize"
plan_line plan.WindowSlide = codes "P12 WindowSlide"
plan_line plan.WindowOffset = codes "P13 WindowOffset"
plan_line plan.Panes = codes "P14 Panes"
plan_line plan.Aggregates = codes "P15 Aggregates"
plan_line plan.Bound = codes "P17 Bound"
plan_line plan.Memory = codes "memory"
