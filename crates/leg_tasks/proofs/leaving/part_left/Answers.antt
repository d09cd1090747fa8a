use Rattle.std.proofs.Common.{rules, ◌≡◌, ap, ◌∙◌}
use Rattle.std.specs.FinMap.{entries}
use Rattle.layout_rules.specs.Stages.{task_role, partitions_of}
use Rattle.dataflow_model.specs.declared.role.Role.TheVariants as role
use Rattle.redistribute.specs.declared.task_start.TaskStart.TheVariants.{Window}
use Rattle.redistribute.specs.Parts.{start_of_role, with_windows}
use Rattle.task_steps.specs.Keeping.{kinds_in}
use Rattle.leg_tasks.specs.Leaving.{parts_left, starts_left, state_at}
use Rattle.leg_tasks.proofs.Known.{parts_are}
use Rattle.leg_tasks.proofs.leaving.part_left.Goals as goal

pub returns-in_ok-parts-in-Window-clause-says : goal.returns-in_ok-parts-in-Window-clause-says
returns-in_ok-parts-in-Window-clause-says c =
    let l = c.args.layout.now in
    let s = state_at c.args.at c.args.task.now.state in
    let kinds = kinds_in c.args.task.now.window in
    let role_is : role.Window ≡ task_role l.stages c.args.number = search rules in
    let parts = c.in_ok-parts-in-Window.field-0 in
    ap Window (parts_are c.args.task.now.window parts (entries s.windows) c.in_ok-parts-in-Window.ensures.sound c.in_ok-parts-in-Window.ensures.says)
    ∙ ap (λ r. with_windows (parts_left kinds s.windows) (start_of_role r (starts_left (partitions_of l.partitions l.stages c.args.number) s))) role_is
