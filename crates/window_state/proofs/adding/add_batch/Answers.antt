use Rattle.std.proofs.Common.{◌≡◌, true, ◌<◌, [], ◌∷◌, get_or, length, refl, sym, ap, subst, ◌∙◌, arith, rules, FitsSigned}
use Rattle.std.specs.FinMap.{get}
use Rattle.std.specs.Int.{w128}
use Rattle.std.specs.List.{All}
use Rattle.std.specs.Prelude.{IfSome}
use Rattle.plain_data.specs.Record.{at}
use Rattle.plan_model.specs.Windows.{IsTime, is_start}
use Rattle.plan_model.specs.declared.spec.WindowSpec.{WindowSpec}
use Rattle.plan_model.specs.Aggregates.{merge}
use Rattle.plan_model.specs.Rows.{aggregate_at}
use Rattle.window_state.specs.declared.windows.Windows.TheInside.{Inside}
use Rattle.window_state.specs.State.{HasRoomFor, OpenWindows, TakesIn}
use Rattle.window_state.specs.StateView.{windows_view}
use Rattle.window_state.proofs.Nowhere.{from_is, inside_placed, none_yet, room_in_places, takes_in}
use Rattle.window_state.proofs.Placed.{on_ok}
use Rattle.window_state.proofs.Slides.{rows_step, room_rows}
use Rattle.window_state.proofs.Standing.{KeepsSlices}
use Rattle.window_state.proofs.adding.add_batch.Goals as goal

pub add_together-requires-clause-room : goal.add_together-requires-clause-room
add_together-requires-clause-room c = room_in_places c.windows.inside c.args.windows.now c.args.batch.now.rows c.windows.invariant c.windows.view_is c.requires.room

pub invariant_of-windows : goal.invariant_of-windows
invariant_of-windows c =
    let s = c.windows.inside in
    let fits : FitsSigned w128 s.from = search rules in
    inside_placed s _ c.windows.invariant (record { window = c.add_together.ensures.window_stays; from = refl; slices = refl })
    (from_is s.from fits c.if-windows-eq-NOWHERE.true) c.add_together.ensures.opened c.add_together.ensures.open_stay c.add_together.ensures.starts

pub returns-then-windows-eq-NOWHERE-clause-added : goal.returns-then-windows-eq-NOWHERE-clause-added
returns-then-windows-eq-NOWHERE-clause-added c =
    let s = c.windows.inside in
    let rows = c.args.batch.now.rows in
    let fits : FitsSigned w128 s.from = search rules in
    let from = from_is s.from fits c.if-windows-eq-NOWHERE.true in
    let t : Inside = record s { places = c.add_together.new.places; opened = c.add_together.new.opened } in
    let k : KeepsSlices s t = record { window = c.add_together.ensures.window_stays; from = refl; slices = refl } in
    let now = inside_placed s t c.windows.invariant k from c.add_together.ensures.opened c.add_together.ensures.open_stay c.add_together.ensures.starts in
    let times = subst (λ (v : OpenWindows). All (λ r. IsTime (at v.window.time r)) rows) (sym c.windows.view_is) c.requires.times in
    on_ok c.add_together.result
    (λ added. subst (λ (v : OpenWindows). TakesIn rows v (windows_view t)) c.windows.view_is (takes_in s t rows c.windows.invariant now k from times added))
    c.add_together.ensures.added

pub loop-row-init : goal.loop-row-init
loop-row-init c =
    let w = c.args.windows.now.window in
    record { window = refl; added = λ q. none_yet w q (get c.args.windows.now.totals q); start = tt }

pub add_record-requires-clause-room : goal.add_record-requires-clause-room
add_record-requires-clause-room c =
    let rows = c.args.batch.now.rows in
    let now = c.loop-row.windows.totals in
    subst (λ (w : WindowSpec). HasRoomFor w (get_or rows c.loop-row.row [] ∷ []) now) (sym c.loop-row.invariant.window)
    (room_rows c.args.windows.now.window rows c.loop-row.row c.args.windows.now.totals now (omega arith) (omega (arith, c.len-row-end.ensures.small)) c.requires.room c.loop-row.invariant.added)

pub loop-row-preserved : goal.loop-row-preserved
loop-row-preserved c =
    let rows = c.args.batch.now.rows in
    let now = c.loop-row.windows.totals in
    let inside : c.loop-row.row < length rows = omega arith in
    record {
      window = c.add_record.ensures.window_stays ∙ c.loop-row.invariant.window;
      added = λ q. rows_step c.args.windows.now.window rows c.loop-row.row (get c.args.windows.now.totals q) (get now q) (get c.add_record.new.windows.totals q) q inside
          (c.loop-row.invariant.added q)
          (c.in_ok-add_record.ensures.added q ∙ ap (λ (w : WindowSpec). merge w.aggregates (get now q) (aggregate_at w (get_or rows c.loop-row.row [] ∷ []) q)) c.loop-row.invariant.window);
      start = subst (λ (w : WindowSpec). IfSome c.back_to_start-first.new.start (λ s. is_start w s ≡ true))
          (c.window-w-in-loop-row.ensures ∙ c.loop-row.invariant.window) c.back_to_start-first.ensures.start;
    }
