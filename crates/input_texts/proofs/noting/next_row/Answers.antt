use Rattle.std.proofs.Common.{sym, ◌∙◌, to_z-of_z, w64}
use Rattle.std.proofs.lemmas.Bool.{MatchBool-at_true, MatchBool-at_false}
use Rattle.json_parts.specs.Parts.{cell_text}
use Rattle.json_tokens.proofs.Facts.{list_refused}
use Rattle.input_texts.specs.Seen.{row_seen}
use Rattle.input_texts.proofs.Notings.{any_cells, other_noted, passed_on, row_noted}
use Rattle.input_texts.proofs.noting.next_row.Goals as goal

pub returns-then-not-is_open-clause-said : goal.returns-then-not-is_open-clause-said
returns-then-not-is_open-clause-said c =
    let plan = c.args.plan.now in
    let other = MatchBool-at_false _ _ c.if-not-is_open.true c.in_ok-is_open.ensures.opened in
    other_noted cell_text (row_seen plan.columns plan.window.time c.args.watermark) c.args.depth c.args.reader.now c.open_list.new.reader other.0 other.1 other.2

pub returns-clause-said : goal.returns-clause-said
returns-clause-said c =
    let plan = c.args.plan.now in
    let opened = MatchBool-at_true _ _ c.if-not-is_open.false c.in_ok-is_open.ensures.opened in
    let told = rw (to_z-of_z {w = w64} {z = c.args.watermark} c.ranges.watermark) at c.in_ok-row.ensures.said in
    rw opened.0 (row_noted plan.columns plan.window.time c.args.watermark c.args.depth c.open_list.new.reader c.cells_noted.new.reader told.0 c.in_ok-row.row opened.1 told.1 told.2)

pub returns-in_err-row-clause-refused : goal.returns-in_err-row-clause-refused
returns-in_err-row-clause-refused c = passed_on c.from_residual-in_err-row.result c.from_residual-in_err-row.ensures.1
    (λ e same other.
    let opened = MatchBool-at_true _ _ c.if-not-is_open.false c.in_ok-is_open.ensures.opened in
    rw opened.0 (list_refused cell_text c.args.depth c.open_list.new.reader opened.1 any_cells (c.in_err-row.ensures.refused (sym same ∙ other))))
