-- The line of a fault: its code and name.
use Rattle.std.specs.Prelude.{ℕ, List, codes}
use Rattle.layout_rules.specs.declared.fault.ScaleFault.{ScaleFault}
use Rattle.layout_rules.specs.declared.fault.ScaleFault.TheVariants as scale

abbrev pub scale_line : ScaleFault → List ℕ
scale_line scale.NotJson = codes "S1 NotJson"
scale_line scale.Member = codes "S2 Member"
scale_line scale.UnknownUid = codes "S3 UnknownUid"
scale_line scale.MissingUid = codes "S4 MissingUid"
scale_line scale.Parallelism = codes "S5 Parallelism"
scale_line scale.Ring = codes "S6 Ring"
scale_line scale.Tasks = codes "S7 Tasks"
scale_line scale.Memory = codes "memory"
