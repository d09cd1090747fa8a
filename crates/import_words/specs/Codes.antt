-- The text of a refusal's code.
use Rattle.std.specs.Prelude.{ℕ, List, codes}
use Rattle.import_words.specs.declared.refusal.ImportCode.{ImportCode}
use Rattle.import_words.specs.declared.refusal.ImportCode.TheVariants.{Columns, Sources, Header, Width, Value, TimeRange, LateRow, Names, Object, Twice, Number, Options, Read, Write}

-- its letter and number, and its name
abbrev pub code_text : ImportCode → List ℕ
code_text Columns = codes "D1 Columns"
code_text Sources = codes "D2 Sources"
code_text Header = codes "D3 Header"
code_text Width = codes "D4 Width"
code_text Value = codes "D5 Value"
code_text TimeRange = codes "D6 TimeRange"
code_text LateRow = codes "D7 LateRow"
code_text Names = codes "D8 Names"
code_text Object = codes "D9 Object"
code_text Twice = codes "D10 Twice"
code_text Number = codes "C2 Number"
code_text Options = codes "C3 Options"
code_text Read = codes "F1 Read"
code_text Write = codes "F2 Write"
