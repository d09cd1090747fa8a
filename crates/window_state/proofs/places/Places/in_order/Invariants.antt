use Rattle.std.proofs.Common.{◌≡◌, Some, take}
use Rattle.std.specs.List.{All}
use Rattle.std.specs.Prelude.{slice_get}
use Rattle.window_state.specs.Placing.{panes_placed}
use Rattle.window_state.proofs.places.Places.in_order.Given as goal

abbrev pub invariant-loop-place : goal.invariant-loop-place
invariant-loop-place l = record {
  panes : panes_placed l.placed.items ≡ take l.place l.pane-items;
  places : All (λ it. slice_get l.pane-items it.place ≡ Some it.pane) l.placed.items;
}
