use Rattle.std.proofs.Common.{◌∙◌, refl, sym}
use Rattle.std.proofs.lemmas.Bool.{MatchBool-at_true, MatchBool-at_false}
use Rattle.json_tokens.proofs.Facts.{members_over, object_refused}
use Rattle.serde_json.specs.Data.{object}
use Rattle.input_texts.proofs.Notings.{passed_on}
use Rattle.input_texts.proofs.NotedTexts.{no_document}
use Rattle.input_texts.proofs.finding.document_noted.Goals as goal

pub returns-then-not-is_open-clause-said : goal.returns-then-not-is_open-clause-said
returns-then-not-is_open-clause-said c =
    let other = MatchBool-at_false _ _ c.if-not-is_open.true c.in_ok-is_open.ensures.opened in
    (other.0, other.1, no_document other.0 other.2)

pub returns-clause-said : goal.returns-clause-said
returns-clause-said c =
    let opened = MatchBool-at_true _ _ c.if-not-is_open.false c.in_ok-is_open.ensures.opened in
    let start = c.open_object.new.reader in
    let told = c.in_ok-document.ensures.said in
    (object told.0, rw opened.0 (members_over c.args.depth start told.1 c.members_noted.new.reader told.0 opened.1 told.2 told.3), (told.0, refl, told.4))

pub returns-in_err-document-clause-refused : goal.returns-in_err-document-clause-refused
returns-in_err-document-clause-refused c =
    passed_on c.from_residual-in_err-document.result c.from_residual-in_err-document.ensures.1
    (λ e same other.
    let opened = MatchBool-at_true _ _ c.if-not-is_open.false c.in_ok-is_open.ensures.opened in
    rw opened.0 (object_refused c.args.depth c.open_object.new.reader opened.1 (c.in_err-document.ensures.refused (sym same ∙ other))))
