use Rattle.std.proofs.Common.{List, sym, subst, arith}
use Rattle.std.specs.List.{All}
use Rattle.plan_model.specs.PlanData.{PlanData}
use Rattle.dataflow_model.specs.declared.role.Role.{Role}
use Rattle.dataflow_model.specs.declared.role.Role.TheVariants.{Source, Chain, Window, Sink}
use Rattle.layout_rules.specs.Stages.{task_role}
use Rattle.window_state.specs.declared.parts.Part.{Part}
use Rattle.window_state.specs.Parts.{IsPartOf}
use Rattle.redistribute.specs.declared.task_start.PartitionStart.{PartitionStart}
use Rattle.redistribute.specs.Parts.{start_of_role, with_windows, IsOpenPart}
use Rattle.task_setups.specs.Legs.{leg_over}
use Rattle.leg_tasks.specs.Beginning.{panes_in}
use Rattle.leg_tasks.proofs.Suiting.{suits_if}
use Rattle.leg_tasks.proofs.beginning.task_from.Goals as goal

-- only a window's task has panes
panes_of : (p : PlanData) (r : Role) (starts : List PartitionStart) (parts : List Part) → All (IsOpenPart p) parts → All (IsPartOf p.window) (panes_in (with_windows parts (start_of_role r starts)))
panes_of p Source starts parts early k d l = absurd (omega (arith, l))
panes_of p Chain starts parts early k d l = absurd (omega (arith, l))
panes_of p Window starts parts early k d l = (early k d l).part
panes_of p Sink starts parts early k d l = absurd (omega (arith, l))

pub opening_of-requires : goal.opening_of-requires
opening_of-requires c =
    let p = c.args.plan.now in
    let part = c.requires.part in
    subst (λ z. All (IsPartOf p.window) (panes_in z)) (sym part.is) (panes_of p (task_role c.args.layout.now.stages c.args.task) part.starts part.parts part.sound)

pub begin-requires-clause-suits : goal.begin-requires-clause-suits
begin-requires-clause-suits c =
    let given = c.in_ok-opening.opening in
    let says = c.in_ok-opening.ensures in
    suits_if c.args.plan.now (leg_over c.args.leg.now c.args.input.now) c.args.layout.now.stages c.args.task c.args.start.now c.inputs_of-inputs.result.now given.offsets.items given.marks.items given.window
    c.requires.part c.inputs_of-inputs.ensures says.offsets says.marks says.window
