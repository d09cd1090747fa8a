use Rattle.std.proofs.Common.{◌≡◌, ◌++◌, drop}
use Rattle.std.specs.FinMap.{get}
use Rattle.window_state.specs.Firing.{rows_due, AllDue}
use Rattle.window_state.specs.Parts.{entries_at}
use Rattle.window_state.proofs.firing.rows_of.Given as goal

abbrev pub invariant-loop-pane : goal.invariant-loop-pane
invariant-loop-pane l =
    let v = l.windows in record {
      rows : l.rows.items ++ rows_due v.window l.watermark (entries_at (get v.totals) (drop l.pane-index l.pane-items)) ≡ rows_due v.window l.watermark (entries_at (get v.totals) l.pane-items);
      due : AllDue v.window l.watermark (drop l.pane-index l.pane-items);
    }
