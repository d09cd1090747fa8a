-- The line of a fault: its code and name.
use Rattle.std.specs.Prelude.{ℕ, List, ◌++◌, codes}
use Rattle.std.specs.Fmt.{decimal}
use Rattle.input_texts.specs.declared.fault.InputFault.{InputFault}
use Rattle.input_texts.specs.declared.fault.InputFault.TheVariants as input

abbrev pub input_line : InputFault → List ℕ
input_line input.NotJson = codes "I1 NotJson"
input_line input.Member = codes "I2 Member"
input_line input.Source = codes "I3 Source"
input_line input.Partitions = codes "I4 Partitions"
input_line input.Width = codes "I5 Width"
input_line input.Number = codes "I6 Number"
input_line input.Rows = codes "I7 Rows"
input_line input.TimeRange = codes "I8 TimeRange"
input_line input.Kind = codes "I12 Kind"
input_line (input.LateRecord source partition entry) = codes "I9 LateRecord " ++ decimal source ++ codes " " ++ decimal partition ++ codes " " ++ decimal entry
input_line input.TooMany = codes "I10 TooMany"
input_line input.Memory = codes "memory"
