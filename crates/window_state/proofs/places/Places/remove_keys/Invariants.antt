use Rattle.std.proofs.Common.{◌≡◌, ◌&&◌, None, take, if◌then◌else◌}
use Rattle.std.specs.Ordering.{int_eq}
use Rattle.plan_model.specs.declared.spec.Pane.{Pane}
use Rattle.window_state.specs.Windows.{acc_at}
use Rattle.window_state.specs.Open.{has_key}
use Rattle.window_state.proofs.places.Places.remove_keys.Given as goal

abbrev pub invariant-loop-key : goal.invariant-loop-key
invariant-loop-key l = record {
  window : l.self.window ≡ l.initial.self.window;
  taken : (q : Pane) → acc_at l.self.entries q ≡ (if int_eq q.start l.start && has_key q.key (take l.key-index l.keys) then None else acc_at l.initial.self.entries q);
}
