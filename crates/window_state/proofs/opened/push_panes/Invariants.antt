use Rattle.std.proofs.Common.{◌≡◌, ◌++◌, take}
use Rattle.window_state.specs.Open.{panes_from}
use Rattle.window_state.proofs.opened.push_panes.Given as goal

abbrev pub invariant-loop-key : goal.invariant-loop-key
invariant-loop-key l = l.panes.items ≡ l.initial.panes.items ++ panes_from l.start (take l.key-index l.key-items)
