use Rattle.std.proofs.Common.{◌≡◌, ◌-◌, ◌≤◌, ◌%◌, ◌^◌, true}
use Rattle.plan_model.specs.declared.spec.Pane.{Pane}
use Rattle.window_state.specs.Open.{has_open, OpensOnly}
use Rattle.window_state.proofs.Openings.{IsSeenTo}
use Rattle.window_state.proofs.opened.open_new.Given as goal

abbrev pub invariant-loop-back : goal.invariant-loop-back
invariant-loop-back l = record {
  high : l.back ≤ 2 ^ 41;
  rem : l.back % l.slide ≡ l.fn.first;
  still : (q : Pane) → has_open l.fn.opened.entries q ≡ true → has_open l.opened.entries q ≡ true;
  only : OpensOnly l.fn.w l.fn.record.key l.fn.record.start l.fn.opened.entries l.opened.entries;
  seen : IsSeenTo l.fn.w l.fn.record.start l.fn.record.key l.fn.from l.opened.entries l.fn.slices l.back;
}

abbrev pub decreases-loop-back : goal.decreases-loop-back
decreases-loop-back l = l.size - l.back
