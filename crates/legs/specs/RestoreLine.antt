-- The line of a fault of a restore: its code and name.
use Rattle.std.specs.Prelude.{ℕ, List, codes}
use Rattle.legs.specs.declared.restore_fault.RestoreFault.{RestoreFault}
use Rattle.legs.specs.declared.restore_fault.RestoreFault.TheVariants as restore

abbrev pub restore_line : RestoreFault → List ℕ
restore_line restore.MaxParallelism = codes "Q1 MaxParallelism"
restore_line restore.UnknownUid = codes "Q2 UnknownUid"
restore_line restore.MissingUid = codes "Q3 MissingUid"
restore_line restore.PlanChanged = codes "Q4 PlanChanged"
restore_line restore.Partitions = codes "Q5 Partitions"
restore_line restore.Offset = codes "Q6 Offset"
restore_line restore.Watermark = codes "Q7 Watermark"
restore_line restore.WrongGroup = codes "Q8 WrongGroup"
restore_line restore.ClosedWindow = codes "Q9 ClosedWindow"
restore_line restore.Count = codes "Q11 Count"
restore_line restore.Number = codes "Q12 Number"
restore_line restore.Memory = codes "memory"
