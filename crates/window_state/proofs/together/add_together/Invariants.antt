use Rattle.std.proofs.Common.{◌≡◌, ◌≤◌, ◌<◌, true, [], get_or, length, take}
use Rattle.std.specs.Prelude.{IfSome}
use Rattle.std.specs.List.{All}
use Rattle.std.specs.Vec.{vec_len, vec_capacity}
use Rattle.plan_model.specs.declared.spec.Pane.{Pane}
use Rattle.plan_model.specs.Windows.{is_start}
use Rattle.plan_model.specs.Aggregates.{merge}
use Rattle.plan_model.specs.Rows.{aggregate_at}
use Rattle.place_words.specs.declared.words.PlacedRow.{PlacedRow}
use Rattle.window_state.specs.Open.{has_open, AreOpen}
use Rattle.window_state.specs.Placing.{last_pane, records_placed, HasWordsAt}
use Rattle.window_state.specs.Windows.{total_at}
use Rattle.window_state.proofs.Listed.{Has, StartsNew}
use Rattle.window_state.proofs.together.add_together.Given as goal

abbrev pub invariant-loop-row : goal.invariant-loop-row
invariant-loop-row l = record {
  window : l.places.window ≡ l.fn.places.window;
  added : (q : Pane) → merge l.fn.places.window.aggregates (total_at l.places.entries q) (aggregate_at l.fn.places.window (records_placed l.batch.rows l.rows.items) q)
      ≡ merge l.fn.places.window.aggregates (total_at l.fn.places.entries q) (aggregate_at l.fn.places.window (take l.row l.batch.rows) q);
  has : (q : Pane) → Has (aggregate_at l.fn.places.window (records_placed l.batch.rows l.rows.items) q) (aggregate_at l.fn.places.window (take l.row l.batch.rows) q);
  placed : All (λ (r : PlacedRow). HasWordsAt l.places (last_pane l.fn.places.window (get_or l.batch.rows r.row [])) r.at) l.rows.items;
  rows_in : All (λ (r : PlacedRow). r.row < length l.batch.rows) l.rows.items;
  few : vec_len l.rows ≤ l.row;
  capacity : length l.batch.rows ≤ vec_capacity l.rows;
  opened : AreOpen l.opened.entries (total_at l.places.entries);
  open_stay : (q : Pane) → has_open l.fn.opened.entries q ≡ true → has_open l.opened.entries q ≡ true;
  starts : StartsNew l.fn.places.entries l.places.entries;
  start : IfSome l.start (λ s. is_start l.fn.places.window s ≡ true);
}
