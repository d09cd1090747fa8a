use Rattle.std.proofs.Common.{◌≡◌, ◌-◌, ◌≤◌, ◌%◌, ◌^◌, cond, slice_index_or, []}
use Rattle.std.specs.Prelude.{int_lt}
use Rattle.std.specs.FinMap.{get}
use Rattle.plan_model.specs.declared.spec.Pane.{Pane}
use Rattle.window_state.proofs.Slides.{slid}
use Rattle.window_state.proofs.adding.add_from.Given as goal

abbrev pub invariant-loop-back : goal.invariant-loop-back
invariant-loop-back l = record {
  high : l.back ≤ 2 ^ 41;
  rem : l.back % l.slide ≡ l.fn.first;
  window : l.windows.window ≡ l.fn.windows.window;
  from : l.windows.from ≡ l.fn.windows.from;
  added : (q : Pane) → get l.windows.totals q
      ≡ cond (int_lt q.start l.fn.windows.from) (slid l.fn.windows.window (slice_index_or l.batch.rows l.row []) (get l.fn.windows.totals q) q l.back) (get l.fn.windows.totals q);
}

abbrev pub decreases-loop-back : goal.decreases-loop-back
decreases-loop-back l = l.size - l.back
