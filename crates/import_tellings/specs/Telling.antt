-- The code with which a refused row is told.
use Rattle.std.specs.Prelude.{◌≡◌}
use Rattle.import_entries.specs.declared.place.PlaceFault.{PlaceFault}
use Rattle.import_entries.specs.declared.place.PlaceFault.TheVariants as place
use Rattle.object_lines.specs.declared.fault.MemberFault.{MemberFault}
use Rattle.object_lines.specs.declared.fault.MemberFault.TheVariants as member
use Rattle.import_words.specs.Judging.{IsRefusal}
use Rattle.imports.specs.declared.fault.RowFault.{RowFault}
use Rattle.imports.specs.declared.fault.RowFault.TheVariants as row
use Rattle.import_words.specs.declared.refusal.ImportCode.{ImportCode}
use Rattle.import_words.specs.declared.refusal.ImportCode.TheVariants as code
use Rattle.import_words.specs.declared.refusal.ImportFault.{ImportFault}
use Rattle.import_words.specs.declared.refusal.ImportFault.TheVariants as fault

abbrev pub member_code : MemberFault → ImportCode
member_code member.Missing = code.Object
member_code member.Twice = code.Object
member_code member.NoText = code.Value

abbrev pub place_code : PlaceFault → ImportCode
place_code place.Range = code.TimeRange
place_code (place.Late time mark) = code.LateRow

-- what is told of a reason has its code, and is no refusal where that is none; or there was no memory for it
abbrev pub KeepsCode : ImportFault → ImportFault → Type 0
KeepsCode (fault.Refused code reason) told = IsRefusal code told
KeepsCode fault.Write told = told ≡ fault.Write
KeepsCode fault.Memory told = told ≡ fault.Memory

-- what is told of a row of a file
abbrev pub TellsRow : RowFault → ImportFault → Type 0
TellsRow row.Read told = IsRefusal code.Read told
TellsRow (row.NoField column) told = IsRefusal code.Header told
TellsRow (row.FieldTwice column) told = IsRefusal code.Header told
TellsRow row.OtherHeader told = IsRefusal code.Header told
TellsRow (row.Width width wanted) told = IsRefusal code.Width told
TellsRow row.NoObject told = IsRefusal code.Object told
TellsRow (row.Member column why) told = IsRefusal (member_code why) told
TellsRow (row.Value column at why) told = IsRefusal code.Value told
TellsRow (row.NoText column) told = IsRefusal code.Value told
TellsRow (row.Place why) told = IsRefusal (place_code why) told
TellsRow row.Write told = told ≡ fault.Write
TellsRow row.Memory told = told ≡ fault.Memory

-- what is told of a record of a table of names
abbrev pub TellsNames : RowFault → ImportFault → Type 0
TellsNames row.Read told = IsRefusal code.Read told
TellsNames row.Memory told = told ≡ fault.Memory
TellsNames why told = IsRefusal code.Names told
