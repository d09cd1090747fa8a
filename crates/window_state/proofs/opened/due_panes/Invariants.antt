use Rattle.std.proofs.Common.{◌≡◌, ◌||◌, ◌&&◌}
use Rattle.std.specs.List.Sorted.{IsStrictlySortedBy}
use Rattle.std.specs.Ordering.{int_cmp}
use Rattle.std.specs.Map.{keys_of}
use Rattle.plan_model.specs.declared.spec.Pane.{Pane}
use Rattle.plan_model.specs.Rows.{is_due}
use Rattle.window_state.specs.Open.{has_open}
use Rattle.window_state.specs.Windows.{has_pane}
use Rattle.window_state.proofs.Rising.{Rises}
use Rattle.window_state.proofs.opened.due_panes.Given as goal

abbrev pub invariant-loop-start : goal.invariant-loop-start
invariant-loop-start l = record {
  those : (q : Pane) → (has_pane l.panes.items q || (is_due l.w l.watermark q.start && has_open l.start-iterator q)) ≡ (is_due l.w l.watermark q.start && has_open l.opened.entries q);
  ordered : IsStrictlySortedBy int_cmp (keys_of l.start-iterator);
  rises : Rises l.panes.items l.start-iterator;
}
