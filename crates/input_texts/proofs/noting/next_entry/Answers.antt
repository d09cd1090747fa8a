use Rattle.std.proofs.Common.{to_z-of_z, w64}
use Rattle.std.proofs.lemmas.Bool.{MatchBool-at_true, MatchBool-at_false}
use Rattle.std.proofs.lemmas.Result.{IfOk-weaker}
use Rattle.json_tokens.proofs.Facts.{members_over, object_refused}
use Rattle.serde_json.specs.Data.{object}
use Rattle.input_texts.proofs.EntryNotings.{other_entry}
use Rattle.input_texts.proofs.Notings.{err_weaker}
use Rattle.input_texts.proofs.noting.next_entry.Goals as goal

pub returns-then-not-is_open-clause-said : goal.returns-then-not-is_open-clause-said
returns-then-not-is_open-clause-said c =
    let plan = c.args.plan.now in
    let other = MatchBool-at_false _ _ c.if-not-is_open.true c.in_ok-is_open.ensures.opened in
    other_entry c.args.bound plan.columns plan.window.time c.args.watermark c.args.depth c.args.reader.now c.open_object.new.reader other.0 other.1 other.2

pub returns-clause-said : goal.returns-clause-said
returns-clause-said c =
    let opened = MatchBool-at_true _ _ c.if-not-is_open.false c.in_ok-is_open.ensures.opened in
    let start = c.open_object.new.reader in
    let same = to_z-of_z {w = w64} {z = c.args.watermark} c.ranges.watermark in
    IfOk-weaker c.members_noted.result _ _
    (λ seen told. (object told.0, rw opened.0 (members_over c.args.depth start told.1 c.members_noted.new.reader told.0 opened.1 told.2 told.3), rw same at told.4))
    c.members_noted.ensures.said

pub returns-clause-refused : goal.returns-clause-refused
returns-clause-refused c =
    let opened = MatchBool-at_true _ _ c.if-not-is_open.false c.in_ok-is_open.ensures.opened in
    err_weaker c.members_noted.result (λ e none other. rw opened.0 (object_refused c.args.depth c.open_object.new.reader opened.1 (none other))) c.members_noted.ensures.refused
