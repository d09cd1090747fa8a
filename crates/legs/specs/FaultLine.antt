-- The line of a fault: its code and name.
use Rattle.std.specs.Prelude.{ℕ, List, codes}
use Rattle.layout_rules.specs.FaultLine.{scale_line}
use Rattle.legs.specs.declared.fault.LegFault.{LegFault}
use Rattle.legs.specs.declared.fault.LegFault.TheVariants as leg

abbrev pub leg_line : LegFault → List ℕ
leg_line leg.StopRange = codes "L1 StopRange"
leg_line leg.SaveRange = codes "L8 SaveRange"
leg_line leg.Memory = codes "memory"
leg_line leg.Legs = codes "L3 Legs"
leg_line leg.NotJson = codes "L4 NotJson"
leg_line leg.Member = codes "L5 Member"
leg_line leg.Choices = codes "L6 Choices"
leg_line leg.Threads = codes "L7 Threads"
leg_line (leg.Scale place fault) = scale_line fault
