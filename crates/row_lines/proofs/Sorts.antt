-- Rows that are sorted are the same rows.
use Rattle.std.proofs.Common.{◌≡◌, ℤ, Bool, cond, ◌&&◌, List, [], ◌∷◌, refl, sym, ◌∙◌, arith, Option}
use Rattle.std.specs.Prelude.{pos, not}
use Rattle.std.specs.List.{filter}
use Rattle.std.specs.List.Sorted.{IsStableByKey, ties}
use Rattle.std.specs.Ordering.{int_eq, int_cmp, is_lt, ordering_then}
use Rattle.std.proofs.lemmas.Int.{ints}
use Rattle.plan_model.specs.declared.spec.Pane.{Pane}
use Rattle.plan_model.specs.declared.spec.Row.{Row}
use Rattle.plan_model.specs.Rows.{AreRowsOf, pane_of, pane_cmp, row_is_at}

ties_at : (a b c d : ℤ) → (not (is_lt (ordering_then (int_cmp a c) (int_cmp b d))) && not (is_lt (ordering_then (int_cmp c a) (int_cmp d b)))) ≡ (int_eq c a && int_eq d b)
ties_at a b c d = grind (arith, ints)

filter_alike : {X : Type 0} (p q : X → Bool) (xs : List X) → ((x : X) → p x ≡ q x) → filter p xs ≡ filter q xs
filter_alike p q [] h = refl
filter_alike p q (x ∷ xs) h = λ i. cond (h x i) (x ∷ filter_alike p q xs h i) (filter_alike p q xs h i)

-- a row in a pane
abbrev row_in : Pane → Row
row_in q = record { start = q.start; end = pos 0; key = q.key; values = [] }

pub same_rows : (xs ys : List Row) → IsStableByKey pane_of pane_cmp xs ys → (f : Pane → Option Row) → AreRowsOf f xs → AreRowsOf f ys
same_rows xs ys stable f are q =
    let alike = λ (zs : List Row). filter_alike (ties (λ x y. is_lt (pane_cmp (pane_of x) (pane_of y))) (row_in q)) (row_is_at q) zs (λ r. ties_at q.start q.key r.start r.key) in
    sym (alike ys) ∙ stable (row_in q) ∙ alike xs ∙ are q
