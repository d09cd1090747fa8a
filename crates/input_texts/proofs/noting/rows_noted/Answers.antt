use Rattle.std.proofs.Common.{◌≡◌, ◌<◌, false, ◌∷◌, ◌++◌, [], length, None, Some, refl, sym, ap, ◌+◌, ◌∙◌, to_z, of_z, to_z-of_z, w64, SFits, arith, rules}
use Rattle.std.proofs.lemmas.List.{length-append}
use Rattle.json.specs.Json.{after_end_array}
use Rattle.serde_json.specs.Read.{converted}
use Rattle.json_parts.specs.Parts.{cell_text, each, list_text}
use Rattle.json_tokens.specs.Ahead.{part}
use Rattle.json_tokens.proofs.Facts.{items_begin, items_next, items_over, items_refused}
use Rattle.json_tokens.specs.Passed.{Passes}
use Rattle.std.specs.Int.{int_max}
use Rattle.input_texts.specs.Seen.{brought, of_rows, row_seen, rows_seen, with_row}
use Rattle.input_texts.proofs.Notings.{no_rows, noted_more, none_of, passed_on, rows_more, rows_over, rows_so_far}
use Rattle.input_texts.proofs.noting.rows_noted.Goals as goal

pub rows-init : goal.rows-init
rows-init c = ([], items_begin (λ d. Some d) c.args.depth c.args.reader.now, refl, ap (λ m. Some (record { met = m; is_late = false; greatest = None })) c.nothing.ensures ∙ ap (λ s. Some s) (sym (no_rows c.args.plan.now.columns c.args.plan.now.window.time (to_z w64 (of_z w64 c.args.watermark)))))

pub rows-preserved : goal.rows-preserved
rows-preserved c =
    let l = c.rows in
    let i = l.invariant in
    let plan = c.args.plan.now in
    let r = c.next_row.new.reader in
    let kept : c.take_end_array.new.self ≡ l.reader = grind arith in
    let noted = c.in_ok-row.ensures.said in
    let w = to_z w64 (of_z w64 c.args.watermark) in
    let passed : Passes c.args.depth l.reader noted.0 r = rw (← kept) noted.1 in
    let said : part (λ d. Some d) c.args.depth l.reader ≡ Some (noted.0, r) = ap (converted (λ d. Some d)) passed in
    let less : length r < length l.reader = rw (← kept) c.in_ok-row.ensures.shorter in (
      i.0 ++ noted.0 ∷ [],
      items_next (λ d. Some d) c.args.depth c.args.reader.now l.reader r i.0 noted.0 i.1 said less,
      c.in_ok-count.ensures.said ∙ ap (λ n. n + 1) i.2 ∙ sym (length-append i.0 (noted.0 ∷ [])),
      c.with_row-rows.ensures
          ∙ noted_more (list_text cell_text) (rows_so_far plan.columns plan.window.time w) (row_seen plan.columns plan.window.time w) with_row i.0 noted.0 l.rows c.in_ok-row.row
          (λ xs x said. rows_more plan.columns plan.window.time w xs x) i.3 noted.2,
    )

pub returns-in_default-clause-said : goal.returns-in_default-clause-said
returns-in_default-clause-said c =
    let l = c.rows in
    let i = l.invariant in
    let plan = c.args.plan.now in
    let w = to_z w64 (of_z w64 c.args.watermark) in (
      i.0,
      items_over (λ d. Some d) c.args.depth c.args.reader.now l.reader c.take_end_array.new.self i.0 i.1 (grind arith),
      none_of (rows_so_far plan.columns plan.window.time w) (rows_seen c.args.bound plan.columns plan.window.time c.args.watermark) (each (list_text cell_text) i.0) (sym i.3 ∙ c.in_default.is),
    )

pub returns-clause-said : goal.returns-clause-said
returns-clause-said c =
    let l = c.rows in
    let i = l.invariant in
    let plan = c.args.plan.now in
    let w = c.args.watermark in
    let all = c.in-Some.rows in
    let same = to_z-of_z {w = w64} {z = w} c.ranges.watermark in
    let said = rw same at i.3 in
    let fits : SFits w64 c.watermark_after-behind.result = search rules in
    let behind = to_z-of_z {w = w64} {z = c.watermark_after-behind.result} fits ∙ c.watermark_after-behind.ensures ∙ ap (λ v. int_max v (brought c.args.bound all.greatest)) same in
    let of = c.entry_of_rows.ensures ∙ ap (of_rows all l.count) behind in (
      i.0,
      items_over (λ d. Some d) c.args.depth c.args.reader.now l.reader c.take_end_array.new.self i.0 i.1 (grind arith),
      ap (λ s. Some s) of ∙ rows_over plan.columns plan.window.time w c.args.bound l.count i.0 all i.2 (sym c.in-Some.is ∙ said),
    )

pub returns-in_err-row-clause-refused : goal.returns-in_err-row-clause-refused
returns-in_err-row-clause-refused c =
    passed_on c.from_residual.result c.from_residual.ensures.1
    (λ e same other.
    let l = c.rows in
    let i = l.invariant in
    let going : (after_end_array l.reader ≡ None) × (c.take_end_array.new.self ≡ l.reader) = grind arith in
    items_refused (λ d. Some d) c.args.depth c.args.reader.now l.reader i.0 i.1 going.0 (rw (← going.1) (c.in_err-row.ensures.refused (sym same ∙ other))))
