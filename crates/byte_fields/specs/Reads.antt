-- What a reader answers, beside what a format reads.
use Rattle.std.specs.Prelude.{◌≡◌, Result, Ok, Err}
use Rattle.byte_fields.specs.declared.fault.FieldFault.{FieldFault}
use Rattle.byte_fields.specs.declared.fault.ReadFault.{ReadFault}
use Rattle.byte_fields.specs.declared.fault.ReadFault.TheVariants.{Memory, Bytes}

-- the answer, seen by a view, is what is read: the value, or the first fault
abbrev pub Reads : {X Y : Type 0} → (X → Y) → Result X FieldFault → Result Y FieldFault → Type 0
Reads view (Ok x) said = said ≡ Ok (view x)
Reads view (Err fault) said = said ≡ Err fault

abbrev pub Fails : {Y : Type 0} → ReadFault → Result Y FieldFault → Type 0
Fails Memory said = Unit {0}
Fails (Bytes fault) said = said ≡ Err fault

-- the same, unless memory ran out
abbrev pub Gives : {X Y : Type 0} → (X → Y) → Result X ReadFault → Result Y FieldFault → Type 0
Gives view (Ok x) said = said ≡ Ok (view x)
Gives view (Err fault) said = Fails fault said
