use Rattle.std.proofs.Common.{◌≡◌, ◌||◌, ◌&&◌, not}
use Rattle.std.specs.Prelude.{int_lt}
use Rattle.std.specs.List.Sorted.{IsStrictlySortedBy}
use Rattle.std.specs.Ordering.{int_cmp}
use Rattle.std.specs.Map.{keys_of}
use Rattle.plan_model.specs.declared.spec.Pane.{Pane}
use Rattle.window_state.specs.Open.{has_open}
use Rattle.window_state.specs.Windows.{has_pane}
use Rattle.window_state.proofs.Rising.{Rises}
use Rattle.window_state.proofs.opened.later_panes.Given as goal

abbrev pub invariant-loop-start : goal.invariant-loop-start
invariant-loop-start l = record {
  those : (q : Pane) → (has_pane l.panes.items q || (not (int_lt q.start l.from) && has_open l.start-iterator q)) ≡ (not (int_lt q.start l.from) && has_open l.opened.entries q);
  ordered : IsStrictlySortedBy int_cmp (keys_of l.start-iterator);
  rises : Rises l.panes.items l.start-iterator;
}
