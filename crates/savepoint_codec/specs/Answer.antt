-- What decoding answers.
use Rattle.std.specs.Prelude.{◌≡◌, ℕ, List, Result, Ok, Err}
use Rattle.byte_fields.specs.declared.fault.FieldFault.{FieldFault}
use Rattle.byte_fields.specs.declared.fault.FieldFault.TheVariants as field
use Rattle.byte_fields.specs.declared.fault.ReadFault.{ReadFault}
use Rattle.byte_fields.specs.declared.fault.ReadFault.TheVariants as read
use Rattle.byte_fields.specs.Format.{whole}
use Rattle.savepoint_codec.specs.declared.fault.SaveFault.{SaveFault}
use Rattle.savepoint_codec.specs.declared.fault.SaveFault.TheVariants.{Magic, Truncated, Trailing, Order, Range, Index, Memory}
use Rattle.savepoint_codec.specs.declared.savepoint.Contents.{Contents}
use Rattle.savepoint_codec.specs.Layout.{unindexed_format}

abbrev pub save_fault : FieldFault → SaveFault
save_fault field.Magic = Magic
save_fault field.Truncated = Truncated
save_fault field.Trailing = Trailing
save_fault field.Order = Order
save_fault field.Range = Range
save_fault field.Index = Index

abbrev pub fault_of_read : ReadFault → SaveFault
fault_of_read read.Memory = Memory
fault_of_read (read.Bytes fault) = save_fault fault

abbrev pub fault_said : {X : Type 0} → Result X FieldFault → Result X SaveFault
fault_said (Ok x) = Ok x
fault_said (Err fault) = Err (save_fault fault)

-- the savepoint that bytes spell in the layout without an index, all of them, or the first fault from their front
unfoldable pub unindexed_of_bytes : List ℕ → Result Contents SaveFault
unindexed_of_bytes bytes = fault_said (whole unindexed_format bytes)

abbrev pub Fails : SaveFault → Result Contents SaveFault → Type 0
Fails Memory said = Unit {0}
Fails fault said = said ≡ Err fault

-- the answer is what is said, unless memory ran out
abbrev pub Gives : Result Contents SaveFault → Result Contents SaveFault → Type 0
Gives (Ok s) said = said ≡ Ok s
Gives (Err fault) said = Fails fault said
