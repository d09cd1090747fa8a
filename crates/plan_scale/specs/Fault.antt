-- A part of another form is the fault Member.
use Rattle.json_parts.specs.declared.error.PartError.{PartError}
use Rattle.json_parts.specs.declared.error.PartError.TheVariants as part
use Rattle.layout_rules.specs.declared.fault.ScaleFault.{ScaleFault}
use Rattle.layout_rules.specs.declared.fault.ScaleFault.TheVariants.{Member, Memory}

abbrev pub fault_of_part : PartError → ScaleFault
fault_of_part part.Form = Member
fault_of_part part.Memory = Memory
