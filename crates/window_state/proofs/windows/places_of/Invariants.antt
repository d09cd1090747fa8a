use Rattle.std.proofs.Common.{◌≡◌, take}
use Rattle.plan_model.specs.declared.spec.Pane.{Pane}
use Rattle.window_state.specs.Windows.{acc_at}
use Rattle.window_state.specs.Parts.{accs_in}
use Rattle.window_state.proofs.windows.places_of.Given as goal

abbrev pub invariant-loop-i : goal.invariant-loop-i
invariant-loop-i l = record {
  window : l.places.window ≡ l.fn.window;
  first : (q : Pane) → acc_at l.places.entries q ≡ acc_at (accs_in (take l.i l.parts)) q;
}
