-- A part of another form is the fault Member.
use Rattle.json_parts.specs.declared.error.PartError.{PartError}
use Rattle.json_parts.specs.declared.error.PartError.TheVariants as part
use Rattle.legs.specs.declared.fault.LegFault.{LegFault}
use Rattle.legs.specs.declared.fault.LegFault.TheVariants.{Member, Memory}

abbrev pub fault_of_part : PartError → LegFault
fault_of_part part.Form = Member
fault_of_part part.Memory = Memory
