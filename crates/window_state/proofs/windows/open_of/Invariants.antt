use Rattle.std.proofs.Common.{◌≡◌, take}
use Rattle.plan_model.specs.declared.spec.Pane.{Pane}
use Rattle.window_state.specs.Open.{has_open}
use Rattle.window_state.specs.Parts.{panes_in}
use Rattle.window_state.specs.Windows.{has_pane}
use Rattle.window_state.proofs.windows.open_of.Given as goal

abbrev pub invariant-loop-i : goal.invariant-loop-i
invariant-loop-i l = (q : Pane) → has_open l.opened.entries q ≡ has_pane (panes_in (take l.i l.parts)) q
