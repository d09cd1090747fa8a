use Rattle.std.proofs.Common.{◌<◌, ◌++◌, ◌∷◌, [], true, false, length, refl, sym, ap, ◌∙◌, arith, append-nil}
use Rattle.std.proofs.lemmas.List.{append_assoc}
use Rattle.json.specs.Lex.{between, lex}
use Rattle.json.proofs.Grammar.{after_end_array-shorter}
use Rattle.json_tokens.specs.Rows.{row_text, joined}
use Rattle.json_tokens.specs.Lexemes.{tokens_from}
use Rattle.json_tokens.proofs.ItemTurns.{ItemsRead, items_begin, items_next, items_over}
use Rattle.json_tokens.proofs.Passes.{comma_over}
use Rattle.json_tokens.proofs.RowLists.{joined_one}
use Rattle.json_tokens.proofs.Starts.{starts, starts_over_comma, list_ends}
use Rattle.json_tokens.proofs.rows.rows_at.Goals as goal

pub returns-in-Some-clause-said : goal.returns-in-Some-clause-said
returns-in-Some-clause-said c =
    let f = row_text c.args.width in
    let text = c.args.text.now in
    let start = tokens_from false text in
    let over = c.in-Some.over.now in
    ([], items_over f c.args.depth start start (tokens_from true over) [] (items_begin f c.args.depth start) (list_ends false text (93 ∷ over) over (sym c.in-Some.ensures) refl), sym (append-nil c.args.cells.now.items))

pub returns-in-Some-clause-shorter : goal.returns-in-Some-clause-shorter
returns-in-Some-clause-shorter c =
    let text = c.args.text.now in
    let over = c.in-Some.over.now in
    after_end_array-shorter (tokens_from false text) (tokens_from true over) (list_ends false text (93 ∷ over) over (sym c.in-Some.ensures) refl)

pub rows-init : goal.rows-init
rows-init c =
    let text = c.args.text.now in
    let start = tokens_from false text in
    (start, [], starts text text refl, items_begin (row_text c.args.width) c.args.depth start, sym (append-nil c.args.cells.now.items), λ h. h)

pub rows-preserved : goal.rows-preserved
rows-preserved c =
    let f = row_text c.args.width in
    let l = c.rows in
    let i = l.invariant in
    let told = c.in_ok-rest.ensures.said in
    let row = told.0 in
    let r = c.in_ok-rest.rest.now in
    let u = c.in-Some-behind_mark.next.now in (
      tokens_from true r,
      i.1 ++ row ∷ [],
      starts_over_comma r (44 ∷ u) u u (sym c.in-Some-behind_mark.ensures) refl refl,
      items_next f c.args.depth (tokens_from false c.args.text.now) i.0 (tokens_from true r) i.1 row i.3 (told.1 i.0 i.2) (c.in_ok-rest.ensures.shorter i.0 i.2),
      told.2 ∙ ap (λ xs. xs ++ row) i.4 ∙ append_assoc c.args.cells.now.items (joined i.1) row ∙ ap (λ xs. c.args.cells.now.items ++ xs) (sym (joined_one i.1 row)),
      λ h. c.in_ok-rest.ensures.within,
    )

pub rows-smaller : goal.rows-smaller
rows-smaller c =
    let r = c.in_ok-rest.rest.now in
    let u = c.in-Some-behind_mark.next.now in
    let less : length (lex between u) < length (lex between c.rows.item.now) =
    omega (arith, c.in_ok-rest.ensures.fewer, comma_over r (44 ∷ u) u u (sym c.in-Some-behind_mark.ensures) refl refl) in
    less

pub returns-in_default-behind_mark-clause-said : goal.returns-in_default-behind_mark-clause-said
returns-in_default-behind_mark-clause-said c =
    let f = row_text c.args.width in
    let l = c.rows in
    let i = l.invariant in
    let told = c.in_ok-rest.ensures.said in
    let row = told.0 in
    let r = c.in_ok-rest.rest.now in
    let start = tokens_from false c.args.text.now in
    let over = c.in-Some-behind_mark-2.over.now in
    let read : ItemsRead f c.args.depth start (i.1 ++ row ∷ []) (tokens_from true r) = items_next f c.args.depth start i.0 (tokens_from true r) i.1 row i.3 (told.1 i.0 i.2) (c.in_ok-rest.ensures.shorter i.0 i.2) in (
      i.1 ++ row ∷ [],
      items_over f c.args.depth start (tokens_from true r) (tokens_from true over) (i.1 ++ row ∷ []) read (list_ends true r (93 ∷ over) over (sym c.in-Some-behind_mark-2.ensures) refl),
      told.2 ∙ ap (λ xs. xs ++ row) i.4 ∙ append_assoc c.args.cells.now.items (joined i.1) row ∙ ap (λ xs. c.args.cells.now.items ++ xs) (sym (joined_one i.1 row)),
    )

pub returns-in_default-behind_mark-clause-shorter : goal.returns-in_default-behind_mark-clause-shorter
returns-in_default-behind_mark-clause-shorter c =
    let i = c.rows.invariant in
    let r = c.in_ok-rest.rest.now in
    let over = c.in-Some-behind_mark-2.over.now in
    let closes = list_ends true r (93 ∷ over) over (sym c.in-Some-behind_mark-2.ensures) refl in
    omega (arith, i.3.shorter, c.in_ok-rest.ensures.shorter i.0 i.2, after_end_array-shorter (tokens_from true r) (tokens_from true over) closes)
