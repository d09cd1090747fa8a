use Rattle.std.proofs.Common.{Some}
use Rattle.std.proofs.lemmas.Bool.{MatchBool-at_true, MatchBool-at_false}
use Rattle.std.proofs.lemmas.Result.{IfOk-weaker}
use Rattle.json_parts.specs.Parts.{list_text}
use Rattle.input_texts.specs.InputText.{entry_text}
use Rattle.input_texts.specs.Seen.{source_seen}
use Rattle.input_texts.proofs.Notings.{any_parts, err_weaker, other_noted, list_noted}
use Rattle.json_tokens.proofs.Facts.{list_refused}
use Rattle.input_texts.proofs.noting.next_source.Goals as goal

pub returns-then-not-is_open-clause-said : goal.returns-then-not-is_open-clause-said
returns-then-not-is_open-clause-said c =
    let plan = c.args.plan.now in
    let other = MatchBool-at_false _ _ c.if-not-is_open.true c.in_ok-is_open.ensures.opened in
    other_noted (list_text entry_text) (source_seen c.args.bound plan.columns plan.window.time) c.args.depth c.args.reader.now c.open_list.new.reader other.0 other.1 other.2

pub returns-clause-said : goal.returns-clause-said
returns-clause-said c =
    let plan = c.args.plan.now in
    let opened = MatchBool-at_true _ _ c.if-not-is_open.false c.in_ok-is_open.ensures.opened in
    IfOk-weaker c.partitions_noted.result _ _ (λ seen told. rw opened.0 (list_noted (list_text entry_text) (source_seen c.args.bound plan.columns plan.window.time) c.args.depth c.open_list.new.reader c.partitions_noted.new.reader told.0 seen opened.1 told.1 told.2)) c.partitions_noted.ensures.said

pub returns-clause-refused : goal.returns-clause-refused
returns-clause-refused c =
    let opened = MatchBool-at_true _ _ c.if-not-is_open.false c.in_ok-is_open.ensures.opened in
    err_weaker c.partitions_noted.result (λ e none other. rw opened.0 (list_refused (λ d. Some d) c.args.depth c.open_list.new.reader opened.1 any_parts (none other))) c.partitions_noted.ensures.refused
