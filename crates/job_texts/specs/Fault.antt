-- The fault of a job that a fault of one of its texts is.
use Rattle.std.specs.Prelude.{Bool, true, false}
use Rattle.logical_plan.specs.declared.fault.PlanFault.{PlanFault}
use Rattle.logical_plan.specs.declared.fault.PlanFault.TheVariants as plan
use Rattle.input_texts.specs.declared.fault.InputFault.{InputFault}
use Rattle.input_texts.specs.declared.fault.InputFault.TheVariants as input
use Rattle.layout_rules.specs.declared.fault.ScaleFault.{ScaleFault}
use Rattle.layout_rules.specs.declared.fault.ScaleFault.TheVariants as scale
use Rattle.savepoint_codec.specs.declared.fault.SaveFault.{SaveFault}
use Rattle.savepoint_codec.specs.declared.fault.SaveFault.TheVariants as save
use Rattle.legs.specs.declared.restore_fault.RestoreFault.{RestoreFault}
use Rattle.legs.specs.declared.restore_fault.RestoreFault.TheVariants as restore
use Rattle.legs.specs.declared.fault.LegFault.{LegFault}
use Rattle.legs.specs.declared.fault.LegFault.TheVariants as leg
use Rattle.job_texts.specs.declared.fault.JobFault.{JobFault}
use Rattle.job_texts.specs.declared.fault.JobFault.TheVariants.{Plan, Input, Scale, Save, Restore, Leg, Memory}

abbrev pub plan_fault : PlanFault → JobFault
plan_fault plan.Memory = Memory
plan_fault fault = Plan fault

abbrev pub input_fault : InputFault → JobFault
input_fault input.Memory = Memory
input_fault fault = Input fault

abbrev pub scale_fault : ScaleFault → JobFault
scale_fault scale.Memory = Memory
scale_fault fault = Scale fault

abbrev pub save_fault : SaveFault → JobFault
save_fault save.Memory = Memory
save_fault fault = Save fault

abbrev pub restore_fault : RestoreFault → JobFault
restore_fault restore.Memory = Memory
restore_fault fault = Restore fault

-- of a list of legs a scale's fault is told as it is alone
abbrev pub leg_fault : LegFault → JobFault
leg_fault leg.Memory = Memory
leg_fault (leg.Scale place fault) = scale_fault fault
leg_fault fault = Leg fault

-- the fault that says nothing of the texts
abbrev pub is_memory : JobFault → Bool
is_memory Memory = true
is_memory fault = false
