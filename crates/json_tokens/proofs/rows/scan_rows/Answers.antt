use Rattle.std.proofs.Common.{false, ap, ◌∙◌, arith}
use Rattle.json_parts.specs.Parts.{list_text}
use Rattle.json_tokens.specs.Ahead.{part}
use Rattle.json_tokens.specs.Lexemes.{tokens_from}
use Rattle.json_tokens.specs.Rows.{row_text}
use Rattle.json_tokens.proofs.ItemTurns.{list_opens}
use Rattle.json_tokens.proofs.rows.scan_rows.Goals as goal

pub returns-clause-said : goal.returns-clause-said
returns-clause-said c =
    let f = row_text c.args.width in
    let told = c.in_ok-rest.ensures.said in
    let opened = ap (part (list_text f) c.args.depth) c.in-Some.ensures ∙ list_opens f c.args.depth (tokens_from false c.in-Some.inner.now) (omega arith) ∙ told.1 in
    (told.0, rw c.stand_behind.ensures opened, told.2)
