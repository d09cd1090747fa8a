use Rattle.std.proofs.Common.{Some, to_z-of_z, w64}
use Rattle.std.proofs.lemmas.Bool.{MatchBool-at_true, MatchBool-at_false}
use Rattle.std.proofs.lemmas.Result.{IfOk-weaker}
use Rattle.json_parts.specs.Parts.{cell_text, list_text}
use Rattle.input_texts.specs.Seen.{rows_seen}
use Rattle.input_texts.proofs.Notings.{any_parts, err_weaker, other_noted, list_noted}
use Rattle.json_tokens.proofs.Facts.{list_refused}
use Rattle.input_texts.proofs.noting.next_rows.Goals as goal

pub returns-then-not-is_open-clause-said : goal.returns-then-not-is_open-clause-said
returns-then-not-is_open-clause-said c =
    let plan = c.args.plan.now in
    let other = MatchBool-at_false _ _ c.if-not-is_open.true c.in_ok-is_open.ensures.opened in
    other_noted (list_text cell_text) (rows_seen c.args.bound plan.columns plan.window.time c.args.watermark) c.args.depth c.args.reader.now c.open_list.new.reader other.0 other.1 other.2

pub returns-clause-said : goal.returns-clause-said
returns-clause-said c =
    let plan = c.args.plan.now in
    let opened = MatchBool-at_true _ _ c.if-not-is_open.false c.in_ok-is_open.ensures.opened in
    let same = to_z-of_z {w = w64} {z = c.args.watermark} c.ranges.watermark in
    IfOk-weaker c.rows_noted.result _ _
    (λ seen told. rw opened.0 (list_noted (list_text cell_text) (rows_seen c.args.bound plan.columns plan.window.time c.args.watermark) c.args.depth c.open_list.new.reader c.rows_noted.new.reader told.0 seen opened.1 told.1 (rw same at told.2)))
    c.rows_noted.ensures.said

pub returns-clause-refused : goal.returns-clause-refused
returns-clause-refused c =
    let opened = MatchBool-at_true _ _ c.if-not-is_open.false c.in_ok-is_open.ensures.opened in
    err_weaker c.rows_noted.result (λ e none other. rw opened.0 (list_refused (λ d. Some d) c.args.depth c.open_list.new.reader opened.1 any_parts (none other))) c.rows_noted.ensures.refused
