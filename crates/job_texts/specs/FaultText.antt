-- The line of each fault, and the status that the program ends with.
use Rattle.std.specs.Prelude.{ℕ, List, codes}
use Rattle.logical_plan.specs.declared.fault.PlanFault.{PlanFault}
use Rattle.logical_plan.specs.declared.fault.PlanFault.TheVariants as plan
use Rattle.logical_plan.specs.FaultLine.{plan_line}
use Rattle.input_texts.specs.declared.fault.InputFault.{InputFault}
use Rattle.input_texts.specs.declared.fault.InputFault.TheVariants as input
use Rattle.input_texts.specs.FaultLine.{input_line}
use Rattle.layout_rules.specs.declared.fault.ScaleFault.{ScaleFault}
use Rattle.layout_rules.specs.declared.fault.ScaleFault.TheVariants as scale
use Rattle.layout_rules.specs.FaultLine.{scale_line}
use Rattle.savepoint_codec.specs.declared.fault.SaveFault.{SaveFault}
use Rattle.savepoint_codec.specs.declared.fault.SaveFault.TheVariants as save
use Rattle.savepoint_codec.specs.FaultLine.{save_line}
use Rattle.legs.specs.declared.restore_fault.RestoreFault.{RestoreFault}
use Rattle.legs.specs.declared.restore_fault.RestoreFault.TheVariants as restore
use Rattle.legs.specs.RestoreLine.{restore_line}
use Rattle.legs.specs.declared.fault.LegFault.{LegFault}
use Rattle.legs.specs.declared.fault.LegFault.TheVariants as leg
use Rattle.legs.specs.FaultLine.{leg_line}
use Rattle.job_texts.specs.declared.fault.JobFault.{JobFault}
use Rattle.job_texts.specs.declared.fault.JobFault.TheVariants as job

abbrev pub fault_text : JobFault → List ℕ
fault_text (job.Plan fault) = plan_line fault
fault_text (job.Input fault) = input_line fault
fault_text (job.Scale fault) = scale_line fault
fault_text (job.Save fault) = save_line fault
fault_text (job.Restore fault) = restore_line fault
fault_text (job.Leg fault) = leg_line fault
fault_text job.Cut = codes "C1 Cut"
fault_text job.Number = codes "C2 Number"
fault_text job.Read = codes "F1 Read"
fault_text job.Write = codes "F2 Write"
fault_text job.Memory = codes "memory"

abbrev pub plan_status : PlanFault → ℕ
plan_status plan.Memory = 4
plan_status fault = 3

abbrev pub input_status : InputFault → ℕ
input_status input.Memory = 4
input_status fault = 3

abbrev pub scale_status : ScaleFault → ℕ
scale_status scale.Memory = 4
scale_status fault = 3

abbrev pub save_status : SaveFault → ℕ
save_status save.Memory = 4
save_status fault = 3

abbrev pub restore_status : RestoreFault → ℕ
restore_status restore.Memory = 4
restore_status fault = 3

abbrev pub leg_status : LegFault → ℕ
leg_status leg.Memory = 4
leg_status leg.Threads = 4
leg_status (leg.Scale place fault) = scale_status fault
leg_status fault = 3

-- 4 for want of memory or of a thread, 2 for a word of the command line that is no cut or no number, and else 3
abbrev pub status : JobFault → ℕ
status (job.Plan fault) = plan_status fault
status (job.Input fault) = input_status fault
status (job.Scale fault) = scale_status fault
status (job.Save fault) = save_status fault
status (job.Restore fault) = restore_status fault
status (job.Leg fault) = leg_status fault
status job.Cut = 2
status job.Number = 2
status job.Memory = 4
status fault = 3
