use Rattle.std.proofs.Common.{◌≡◌, ℕ, ◌+◌, ◌<◌, ℤ, SFits, List, [], ◌∷◌, ◌++◌, length, get_or, take, map, Option, refl, ap, sym, ◌∙◌, rules}
use Rattle.std.specs.Int.{w64}
use Rattle.std.proofs.lemmas.Int.{to_z-of_z}
use Rattle.std.proofs.lemmas.List.{append_assoc, take_more, map-append}
use Rattle.plain_data.specs.Record.{at, column_of}
use Rattle.input_texts.specs.Said.{record_of}
use Rattle.stream_input.proofs.building.put_column.Goals as goal

-- the number of one row more
number_more : (column : ℕ) (first : List ℤ) (rows : List (List (Option ℤ))) (i : ℕ) (row : List (Option ℤ)) (old new : List ℤ) (n : ℤ) → i < length rows → row ≡ get_or rows i row
    → old ≡ first ++ column_of column (map record_of (take i rows)) → n ≡ at column (record_of row) → new ≡ old ++ n ∷ [] → new ≡ first ++ column_of column (map record_of (take (i + 1) rows))
number_more column first rows i row old new n below here before is more =
    let taken : List ℤ = column_of column (map record_of (take i rows)) in
    more ∙ ap (λ (xs : List ℤ). xs ++ n ∷ []) before ∙ append_assoc first taken (n ∷ []) ∙ ap (λ (x : ℤ). first ++ (taken ++ x ∷ [])) is
    ∙ ap (λ (xs : List ℤ). first ++ xs)
    (sym (ap (λ (some : List (List (Option ℤ))). column_of column (map record_of some)) (take_more rows i row below ∙ ap (λ (x : List (Option ℤ)). take i rows ++ x ∷ []) (sym here))
    ∙ rw (map-append, map-append) refl))

pub loop-row-preserved : goal.loop-row-preserved
loop-row-preserved c =
    let fits : SFits w64 c.number_at.result = search rules in
    number_more c.args.column c.args.numbers.now.items c.args.rows.now c.loop-row.row-index c.row-item.result _ _ _ c.loop-row-test.true c.row-item.is c.loop-row.invariant
    (to_z-of_z _ _ fits ∙ c.number_at.ensures ∙ ap (λ (row : List (Option ℤ)). at c.args.column (record_of row)) c.as_slice.ensures) c.in_ok-push.ensures.items
