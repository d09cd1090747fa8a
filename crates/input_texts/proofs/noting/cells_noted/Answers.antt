use Rattle.std.proofs.Common.{◌≡◌, ◌<◌, ◌==◌, ◌+◌, ◌&&◌, ◌∷◌, ◌++◌, [], cond, true, length, SFits, None, Some, is_some, refl, sym, ap, ap₂, ◌∙◌, to_z-of_z, w64, arith, rules}
use Rattle.std.proofs.lemmas.List.{length-append}
use Rattle.json.specs.Json.{after_end_array}
use Rattle.json_parts.specs.Parts.{cell_text}
use Rattle.json_tokens.specs.Ahead.{part}
use Rattle.json_tokens.proofs.Facts.{items_begin, items_next, items_over, items_refused}
use Rattle.plain_data.specs.Record.{at}
use Rattle.input_texts.specs.Said.{number_of, record_of}
use Rattle.plan_model.specs.Windows.{is_time}
use Rattle.stream_model.specs.Late.{is_late_time}
use Rattle.input_texts.proofs.Notings.{all_more, at_more, passed_on}
use Rattle.input_texts.proofs.noting.cells_noted.Goals as goal

pub cells-init : goal.cells-init
cells-init c = ([], items_begin cell_text c.args.depth c.args.reader.now, refl, refl, refl)

pub cells-preserved : goal.cells-preserved
cells-preserved c =
    let l = c.cells in
    let i = l.invariant in
    let cell = c.in_ok-cell.cell in
    let r = c.next_cell.new.reader in
    let column = c.window.result.now.time in
    let kept : c.take_end_array.new.self ≡ l.reader = grind arith in
    let said : part cell_text c.args.depth l.reader ≡ Some (cell, r) = rw (← kept) c.in_ok-cell.ensures.said in
    let less : length r < length l.reader = rw (← kept) c.in_ok-cell.ensures.shorter in
    let here : (l.count == column) ≡ (length i.0 == column) = ap (λ n. n == column) i.2 in
    let whole = ap₂ (λ a b. a && b) i.3 c.is_some-is_whole.ensures ∙ sym (all_more is_some i.0 cell) in
    let fits : SFits w64 c.time_after-time.result = search rules in
    let time = to_z-of_z {w = w64} {z = c.time_after-time.result} fits ∙ c.time_after-time.ensures ∙ (λ o. cond (here o) (number_of cell) (i.4 o)) ∙ sym (at_more column i.0 cell) in
    let count = c.in_ok-count.ensures.said ∙ ap (λ n. n + 1) i.2 ∙ sym (length-append i.0 (cell ∷ [])) in
    (i.0 ++ cell ∷ [], items_next cell_text c.args.depth c.args.reader.now l.reader r i.0 cell i.1 said less, count, whole, time)

pub returns-clause-said : goal.returns-clause-said
returns-clause-said c =
    let l = c.cells in
    let i = l.invariant in
    let wide = ap₂ (λ a b. a == b) i.2 c.columns.ensures.says in
    let time = i.4 ∙ ap (λ w. at w.time (record_of i.0)) c.window.ensures.says in
    let timely = c.is_time.ensures ∙ ap is_time time in
    let late = c.is_late_time.ensures ∙ ap₂ is_late_time (to_z-of_z {w = w64} {z = c.args.watermark} c.ranges.watermark) time in (
      i.0,
      items_over cell_text c.args.depth c.args.reader.now l.reader c.take_end_array.new.self i.0 i.1 (grind arith),
      λ o. record { met = record { is_wide = wide o; is_whole = i.3 o; is_sized = true; is_timely = timely o; is_kind = true }; is_late = late o; greatest = Some (time o) },
    )

pub returns-in_err-cell-clause-refused : goal.returns-in_err-cell-clause-refused
returns-in_err-cell-clause-refused c =
    passed_on c.from_residual.result c.from_residual.ensures.1
    (λ e same other.
    let l = c.cells in
    let i = l.invariant in
    let going : (after_end_array l.reader ≡ None) × (c.take_end_array.new.self ≡ l.reader) = grind arith in
    items_refused cell_text c.args.depth c.args.reader.now l.reader i.0 i.1 going.0 (rw (← going.1) c.in_err-cell.ensures.refused))
