-- The line of a fault: its code and name.
use Rattle.std.specs.Prelude.{ℕ, List, codes}
use Rattle.savepoint_codec.specs.declared.fault.SaveFault.{SaveFault}
use Rattle.savepoint_codec.specs.declared.fault.SaveFault.TheVariants as save

abbrev pub save_line : SaveFault → List ℕ
save_line save.Magic = codes "V1 Magic"
save_line save.Truncated = codes "V2 Truncated"
save_line save.Trailing = codes "V3 Trailing"
save_line save.Order = codes "V4 Order"
save_line save.Range = codes "V5 Range"
save_line save.Index = codes "V7 Index"
save_line save.Memory = codes "memory"
