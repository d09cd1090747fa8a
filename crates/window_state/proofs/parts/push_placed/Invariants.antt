use Rattle.window_state.specs.Windows.{total_at}
use Rattle.window_state.specs.Placing.{panes_placed}
use Rattle.window_state.proofs.Pushing.{Pushed}
use Rattle.window_state.proofs.parts.push_placed.Given as goal

abbrev pub invariant-loop-it : goal.invariant-loop-it
invariant-loop-it l = Pushed l.places.window l.fn.parts.kinds (total_at l.places.entries) (panes_placed l.it-items) l.fn.parts l.it-index l.parts
