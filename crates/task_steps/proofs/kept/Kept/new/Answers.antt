use Rattle.std.proofs.Common.{◌≡◌, ap, ◌∙◌}
use Rattle.std.specs.FinMap.{from_entries}
use Rattle.plan_model.specs.Rows.{pane_cmp}
use Rattle.task_steps.specs.TaskData.{windows_in}
use Rattle.task_steps.specs.Keeping.{windows_of}
use Rattle.task_steps.proofs.Keeping.{from_its_entries}
use Rattle.task_steps.proofs.kept.Kept.new.Goals as goal

pub returns-clause-is : goal.returns-clause-is
returns-clause-is c =
    let windows : windows_of c.in_ok-parts_of.field-0 ≡ windows_in c.args.window.now = ap (from_entries {R = pane_cmp}) c.in_ok-parts_of.ensures.says ∙ from_its_entries (windows_in c.args.window.now) in
    λ j. record { offsets = c.in_ok-from_slice.ensures.items j; marks = c.in_ok-from_slice-2.ensures.items j; windows = windows j; rows = c.args.rows }
