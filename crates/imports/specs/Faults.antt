-- Faults of a record, and those of more.
use Rattle.std.specs.Prelude.{Bool, true, false}
use Rattle.object_lines.specs.declared.fault.LineFault.{LineFault}
use Rattle.object_lines.specs.declared.fault.LineFault.TheVariants as line
use Rattle.imports.specs.declared.fault.RowFault.{RowFault}
use Rattle.imports.specs.declared.fault.RowFault.TheVariants.{Read, NoField, FieldTwice, OtherHeader, Width, NoObject, Member, Value, NoText, Place, Write, Memory}

-- the fault of a line of NDJSON
abbrev pub fault_said : LineFault → RowFault
fault_said line.Read = Read
fault_said line.NoObject = NoObject
fault_said (line.Member column why) = Member column why
fault_said line.Memory = Memory

-- a fault is of more than a record, and the import ends there
abbrev pub is_final : RowFault → Bool
is_final Read = true
is_final (NoField column) = true
is_final (FieldTwice column) = true
is_final OtherHeader = true
is_final (Width width wanted) = false
is_final NoObject = false
is_final (Member column why) = false
is_final (Value column place why) = false
is_final (NoText column) = false
is_final (Place why) = false
is_final Write = true
is_final Memory = true
