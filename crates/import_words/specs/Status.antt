-- The status of a refusal.
use Rattle.std.specs.Prelude.{ℕ}
use Rattle.import_words.specs.declared.refusal.ImportCode.{ImportCode}
use Rattle.import_words.specs.declared.refusal.ImportCode.TheVariants.{Columns, Sources, Header, Width, Value, TimeRange, LateRow, Names, Object, Twice, Number, Options, Read, Write}
use Rattle.import_words.specs.declared.refusal.ImportFault.{ImportFault}
use Rattle.import_words.specs.declared.refusal.ImportFault.TheVariants as faults

-- 2 where words are refused, and 3 where a file is
abbrev pub code_status : ImportCode → ℕ
code_status Columns = 2
code_status Sources = 2
code_status Number = 2
code_status Options = 2
code_status Header = 3
code_status Width = 3
code_status Value = 3
code_status TimeRange = 3
code_status LateRow = 3
code_status Names = 3
code_status Object = 3
code_status Twice = 3
code_status Read = 3
code_status Write = 3

abbrev pub status : ImportFault → ℕ
status (faults.Refused code sentence) = code_status code
status faults.Write = 3
status faults.Memory = 4
