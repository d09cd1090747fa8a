-- Which fault a part of another form is, and a record that comes too late.
use Rattle.std.specs.Prelude.{ℕ}
use Rattle.json_parts.specs.declared.error.PartError.{PartError}
use Rattle.json_parts.specs.declared.error.PartError.TheVariants as part
use Rattle.input_texts.specs.declared.fault.InputFault.{InputFault}
use Rattle.input_texts.specs.declared.fault.InputFault.TheVariants.{Member, LateRecord, Memory}

abbrev pub fault_of_part : PartError → InputFault
fault_of_part part.Form = Member
fault_of_part part.Memory = Memory

-- of its source, its partition and its entry
abbrev pub late_fault : ℕ × (ℕ × ℕ) → InputFault
late_fault place = LateRecord place.0 place.1.0 place.1.1
