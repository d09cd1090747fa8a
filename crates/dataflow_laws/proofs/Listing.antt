-- The due rows of a finite map can be listed.
use Rattle.std.proofs.Common.{◌≡◌, ℤ, Bool, true, false, cond, ◌&&◌, T, List, [], ◌∷◌, ◌++◌, refl, sym, ap, ◌∙◌, inl, inr, arith, Option, Some, None, if◌then◌else◌}
use Rattle.std.specs.Prelude.{option_to_list, option_and_then}
use Rattle.std.specs.List.{filter}
use Rattle.std.specs.Ordering.{int_cmp, int_eq, is_eq, is_lt, eq_by_cmp, ordering_then}
use Rattle.std.specs.declared.cmp.Ordering.{Ordering}
use Rattle.std.specs.declared.cmp.Ordering.TheVariants.{Less, Equal, Greater}
use Rattle.std.specs.FinMap.{entries, entries_sorted, get-entries, find, is_sorted}
use Rattle.std.specs.FinMap.Entries.{below_all}
use Rattle.std.proofs.lemmas.Int.{ints}
use Rattle.std.proofs.lemmas.Bool.{cases_Bool}
use Rattle.std.proofs.lemmas.List.{append-nil}
use Rattle.std.proofs.lemmas.List.Elements.{filter-append}
use Rattle.plan_model.specs.declared.spec.WindowSpec.{WindowSpec}
use Rattle.plan_model.specs.declared.spec.Pane.{Pane}
use Rattle.plan_model.specs.declared.spec.Row.{Row}
use Rattle.plan_model.specs.PlanData.{PlanData}
use Rattle.plan_model.specs.Aggregates.{Aggregated}
use Rattle.plan_model.specs.Rows.{pane_cmp, keeps, kept_row, row_at, row_is_at, is_due, AreRowsOf}
use Rattle.dataflow_model.specs.State.{Windows}
use Rattle.dataflow_model.specs.Steps.{rows_due, Fires}
use Rattle.dataflow_laws.proofs.Building.{same_pane}

-- the row of what stands in a pane, if its window fires
abbrev due : WindowSpec → ℤ → Pane → Option Aggregated → Option Row
due w t q o = if is_due w t q.start then option_and_then (kept_row w q) o else None

abbrev rows_in : WindowSpec → ℤ → List (Pane × Aggregated) → List Row
rows_in w t [] = []
rows_in w t (e ∷ es) = option_to_list (due w t e.0 (Some e.1)) ++ rows_in w t es

one_test : (a b c d : ℤ) → (int_eq a c && int_eq b d) ≡ is_eq (ordering_then (int_cmp c a) (int_cmp d b))
one_test a b c d = grind (arith, ints)

kept_there : (w : WindowSpec) (p q : Pane) (a : Aggregated) (k : Bool) → filter (row_is_at q) (option_to_list (if k then Some (row_at w p a) else None)) ≡ cond (eq_by_cmp pane_cmp q p) (option_to_list (if k then Some (row_at w p a) else None)) []
kept_there w p q a true = ap (λ b. cond b (row_at w p a ∷ []) []) (one_test p.start p.key q.start q.key)
kept_there w p q a false = elim (eq_by_cmp pane_cmp q p) as (λ b. ◌≡◌ {A = List Row} [] (cond b [] [])) [ true ↦ refl | false ↦ refl ]

-- the row of one pane stands there
there : (w : WindowSpec) (t : ℤ) (p q : Pane) (a : Aggregated) → filter (row_is_at q) (option_to_list (due w t p (Some a))) ≡ cond (eq_by_cmp pane_cmp q p) (option_to_list (due w t p (Some a))) []
there w t p q a = elim (is_due w t p.start) as (λ d. filter (row_is_at q) (option_to_list (if d then kept_row w p a else None)) ≡ cond (eq_by_cmp pane_cmp q p) (option_to_list (if d then kept_row w p a else None)) []) [
  | true ↦ kept_there w p q a (keeps w.having a.numbers)
  | false ↦ elim (eq_by_cmp pane_cmp q p) as (λ b. ◌≡◌ {A = List Row} [] (cond b [] [])) [ true ↦ refl | false ↦ refl ]
]

both : (a b : Bool) → T (a && b) → T a × T b
both true b h = (tt, h)
both false b h = absurd h

not_equal : (r : Ordering) → T (is_lt r) → is_eq r ≡ false
not_equal Less h = refl
not_equal Equal h = absurd h
not_equal Greater h = absurd h

none_below : (w : WindowSpec) (t : ℤ) (p : Pane) (es : List (Pane × Aggregated)) → T (below_all pane_cmp p es) → filter (row_is_at p) (rows_in w t es) ≡ []
none_below w t p [] h = refl
none_below w t p (e ∷ es) h =
    let x = both (is_lt (pane_cmp p e.0)) (below_all pane_cmp p es) h in
    filter-append (row_is_at p) (option_to_list (due w t e.0 (Some e.1))) (rows_in w t es)
    ∙ ap (λ l. l ++ filter (row_is_at p) (rows_in w t es)) (there w t e.0 p e.1 ∙ ap (λ b. cond b (option_to_list (due w t e.0 (Some e.1))) []) (not_equal (pane_cmp p e.0) x.0))
    ∙ none_below w t p es x.1

no_due : (w : WindowSpec) (q : Pane) (d : Bool) → [] ≡ option_to_list (if d then option_and_then (kept_row w q) None else None)
no_due w q true = refl
no_due w q false = refl

rows_there : (w : WindowSpec) (t : ℤ) (es : List (Pane × Aggregated)) → T (is_sorted pane_cmp es) → (q : Pane) → filter (row_is_at q) (rows_in w t es) ≡ option_to_list (due w t q (find pane_cmp q es))
rows_there w t [] h q = no_due w q (is_due w t q.start)
rows_there w t (e ∷ es) h q =
    let x = both (below_all pane_cmp e.0 es) (is_sorted pane_cmp es) h in
    filter-append (row_is_at q) (option_to_list (due w t e.0 (Some e.1))) (rows_in w t es)
    ∙ ap (λ l. l ++ filter (row_is_at q) (rows_in w t es)) (there w t e.0 q e.1)
    ∙ elim (cases_Bool (eq_by_cmp pane_cmp q e.0)) [
      | inr n ↦ ap (λ b. cond b (option_to_list (due w t e.0 (Some e.1))) [] ++ filter (row_is_at q) (rows_in w t es)) n ∙ rows_there w t es x.1 q
          ∙ sym (ap (λ b. option_to_list (due w t q (cond b (Some e.1) (find pane_cmp q es)))) n)
      | inl y ↦ ap (λ b. cond b (option_to_list (due w t e.0 (Some e.1))) [] ++ filter (row_is_at q) (rows_in w t es)) y
          ∙ ap (λ z. option_to_list (due w t e.0 (Some e.1)) ++ filter (row_is_at z) (rows_in w t es)) (same_pane q e.0 y)
          ∙ ap (λ l. option_to_list (due w t e.0 (Some e.1)) ++ l) (none_below w t e.0 es x.0)
          ∙ append-nil (option_to_list (due w t e.0 (Some e.1)))
          ∙ ap (λ z. option_to_list (due w t z (Some e.1))) (sym (same_pane q e.0 y))
          ∙ sym (ap (λ b. option_to_list (due w t q (cond b (Some e.1) (find pane_cmp q es)))) y)
    ]

rows_listed : (p : PlanData) (windows : Windows) (t : ℤ) → AreRowsOf (rows_due p windows t) (rows_in p.window t (entries windows))
rows_listed p windows t q = rows_there p.window t (entries windows) (entries_sorted windows) q ∙ ap (λ o. option_to_list (due p.window t q o)) (sym (get-entries windows q))

-- whatever the least watermark becomes, something fires and something is left
pub fires : (p : PlanData) (windows : Windows) (o : Option ℤ) → (rows : List Row) × (left : Windows) × Fires p windows o rows left
fires p windows None = ([], windows, (refl, refl))
fires p windows (Some t) = (_, _, (rows_listed p windows t, refl))
