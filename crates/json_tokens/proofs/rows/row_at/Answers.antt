use Rattle.std.proofs.Common.{◌∷◌, ◌++◌, false, length, refl, ap, ◌∙◌, arith}
use Rattle.std.proofs.lemmas.Result.{IfOk-weaker}
use Rattle.json_parts.specs.Parts.{whole, list_text}
use Rattle.json_tokens.specs.Ahead.{part}
use Rattle.json_tokens.specs.Lexemes.{tokens_from}
use Rattle.json_tokens.proofs.ItemTurns.{list_opens}
use Rattle.json_tokens.proofs.Passes.{mark_over}
use Rattle.json_tokens.proofs.RowLists.{row_said}
use Rattle.json_tokens.proofs.Starts.{bracket_begins}
use Rattle.json_tokens.proofs.rows.row_at.Goals as goal

pub returns-clause-said : goal.returns-clause-said
returns-clause-said c =
    let text = c.args.text.now in
    let inner = c.in-Some.inner.now in
    IfOk-weaker c.cells_at.result _ _
    (λ rest told. (
      told.0,
      λ ts b.
          row_said c.args.width c.args.depth ts _ told.0 told.3 (ap (part (list_text whole) c.args.depth) (bracket_begins ts text inner b c.in-Some.ensures) ∙ list_opens whole c.args.depth (tokens_from false inner) (omega arith) ∙ told.1),
      told.2 ∙ ap (λ xs. xs ++ told.0) c.reserve.ensures.items,
    ))
    c.cells_at.ensures.said

pub returns-clause-shorter : goal.returns-clause-shorter
returns-clause-shorter c =
    IfOk-weaker c.cells_at.result _ _
    (λ rest less. λ ts b. omega (arith, less, ap length (bracket_begins ts c.args.text.now c.in-Some.inner.now b c.in-Some.ensures)))
    c.cells_at.ensures.shorter

pub returns-clause-fewer : goal.returns-clause-fewer
returns-clause-fewer c =
    let inner = c.in-Some.inner.now in
    IfOk-weaker c.cells_at.result _ _ (λ rest less. omega (arith, less, ap length c.in-Some.ensures, mark_over 91 (91 ∷ inner) inner refl refl)) c.cells_at.ensures.fewer
