use Rattle.window_state.proofs.Joined.{later_side}
use Rattle.window_state.proofs.Pushing.{Pushed}
use Rattle.window_state.proofs.parts.push_later.Given as goal

abbrev pub invariant-loop-pane : goal.invariant-loop-pane
invariant-loop-pane l = Pushed l.windows.window l.fn.parts.kinds (later_side l.windows) l.pane-items l.fn.parts l.pane-index l.parts
