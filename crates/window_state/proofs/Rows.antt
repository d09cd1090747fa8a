-- The rows of windows that fire are just those that are due, in order.
use Rattle.std.proofs.Common.{◌≡◌, zero, suc, ℤ, ◌+◌, Bool, true, false, cond, ◌&&◌, List, [], ◌∷◌, map, refl, sym, ap, subst, ◌∙◌, arith, Option, Some, None, if◌then◌else◌}
use Rattle.std.specs.List.{filter, AllByRecursion}
use Rattle.std.specs.List.Sorted.{IsStrictlySortedBy, IsSortedByKey}
use Rattle.std.specs.Map.{keys_of, lookup}
use Rattle.std.specs.Option.{option_map, option_to_list}
use Rattle.std.specs.Ordering.{int_eq, int_cmp, is_lt, ordering_then}
use Rattle.std.specs.declared.cmp.Ordering.TheVariants.{Less}
use Rattle.std.proofs.lemmas.Int.{ints}
use Rattle.plan_model.specs.declared.spec.WindowSpec.{WindowSpec}
use Rattle.plan_model.specs.declared.spec.Pane.{Pane}
use Rattle.plan_model.specs.declared.spec.Row.{Row}
use Rattle.plan_model.specs.Rows.{pane_cmp, pane_of, row_is_at, is_due, row_at, AreRowsOf}
use Rattle.plan_model.specs.Aggregates.{Aggregated}
use Rattle.window_state.specs.Windows.{is_pane}
use Rattle.window_state.specs.State.{fired}
use Rattle.window_state.specs.Firing.{rows_due}
use Rattle.window_state.proofs.Updates.{pane_from_test}
use Rattle.window_state.proofs.Sorted.{flips}

-- ---- just those that are due

apart : (a b c d : ℤ) → ordering_then (int_cmp a c) (int_cmp b d) ≡ Less → (int_eq c a && int_eq d b) ≡ false
apart a b c d h = grind (arith, ints)

-- a row that is or is not taken, in a pane where it does not stand
skipped : (q : Pane) (b : Bool) (row : Row) (rows : List Row) → row_is_at q row ≡ false → filter (row_is_at q) (cond b (row ∷ rows) rows) ≡ filter (row_is_at q) rows
skipped q true row rows h = ap (λ t. cond t (row ∷ filter (row_is_at q) rows) (filter (row_is_at q) rows)) h
skipped q false row rows h = refl

pub rows_cons : (w : WindowSpec) (t : ℤ) (e : Pane × Aggregated) (es : List (Pane × Aggregated))
    → rows_due w t (e ∷ es) ≡ cond (is_due w t e.0.start) (row_at w e.0 e.1 ∷ rows_due w t es) (rows_due w t es)
rows_cons w t e es = elim (is_due w t e.0.start) as (λ b. map (λ x. row_at w x.0 x.1) (cond b (e ∷ filter (λ x. is_due w t x.0.start) es) (filter (λ x. is_due w t x.0.start) es))
    ≡ cond b (row_at w e.0 e.1 ∷ rows_due w t es) (rows_due w t es)) [ true ↦ refl | false ↦ refl ]

-- no later entry has the pane
none_at : (w : WindowSpec) (t : ℤ) (p : Pane) (es : List (Pane × Aggregated)) → AllByRecursion (λ q. pane_cmp p q ≡ Less) (keys_of es) → filter (row_is_at p) (rows_due w t es) ≡ []
none_at w t p [] h = refl
none_at w t p (e ∷ es) h =
    ap (filter (row_is_at p)) (rows_cons w t e es)
    ∙ skipped p (is_due w t e.0.start) (row_at w e.0 e.1) (rows_due w t es) (apart p.start p.key e.0.start e.0.key h.0)
    ∙ none_at w t p es h.1

taken : (w : WindowSpec) (q : Pane) (b : Bool) (row : Row) (rows : List Row) → row_is_at q row ≡ true → filter (row_is_at q) rows ≡ []
    → filter (row_is_at q) (cond b (row ∷ rows) rows) ≡ option_to_list (if b then Some row else None)
taken w q true row rows h none = ap (λ t. cond t (row ∷ filter (row_is_at q) rows) (filter (row_is_at q) rows)) h ∙ ap (λ l. row ∷ l) none
taken w q false row rows h none = none

-- what is due of the entries found
abbrev pub due_found : WindowSpec → ℤ → List (Pane × Aggregated) → Pane → Option Row
due_found w t es q = if is_due w t q.start then option_map (row_at w q) (lookup (is_pane q) es) else None

rows_found : (w : WindowSpec) (t : ℤ) (es : List (Pane × Aggregated)) → IsStrictlySortedBy pane_cmp (keys_of es) → (q : Pane) → filter (row_is_at q) (rows_due w t es) ≡ option_to_list (due_found w t es q)
unfolding IsStrictlySortedBy
rows_found w t [] h q = elim (is_due w t q.start) as (λ b. [] ≡ option_to_list (if b then option_map (row_at w q) None else None)) [ true ↦ refl | false ↦ refl ]
rows_found w t (e ∷ es) h q = by_case (is_pane e.0 q) refl (rows_found w t es h.1 q)
  where
    by_case : (b : Bool) → is_pane e.0 q ≡ b → filter (row_is_at q) (rows_due w t es) ≡ option_to_list (due_found w t es q) → filter (row_is_at q) (rows_due w t (e ∷ es)) ≡ option_to_list (due_found w t (e ∷ es) q)
    by_case true here later =
        let same : e.0 ≡ q = pane_from_test e.0 q here in
        let none : filter (row_is_at q) (rows_due w t es) ≡ [] = subst (λ p. filter (row_is_at p) (rows_due w t es) ≡ []) same (none_at w t e.0 es h.0) in
        let first : lookup (is_pane q) (e ∷ es) ≡ Some e.1 = ap (λ b. cond b (Some e.1) (lookup (is_pane q) es)) (flips q e.0 ∙ here) in
        ap (filter (row_is_at q)) (rows_cons w t e es)
        ∙ taken w q (is_due w t e.0.start) (row_at w e.0 e.1) (rows_due w t es) here none
        ∙ ap (λ p. option_to_list (if is_due w t p.start then Some (row_at w p e.1) else None)) same
        ∙ sym (ap (λ o. option_to_list (if is_due w t q.start then option_map (row_at w q) o else None)) first)
    by_case false here later =
        let next : lookup (is_pane q) (e ∷ es) ≡ lookup (is_pane q) es = ap (λ b. cond b (Some e.1) (lookup (is_pane q) es)) (flips q e.0 ∙ here) in
        ap (filter (row_is_at q)) (rows_cons w t e es)
        ∙ skipped q (is_due w t e.0.start) (row_at w e.0 e.1) (rows_due w t es) here
        ∙ later
        ∙ sym (ap (λ o. option_to_list (if is_due w t q.start then option_map (row_at w q) o else None)) next)

same_due : (w : WindowSpec) (q : Pane) (b : Bool) (x y : Option Aggregated) → (b ≡ true → x ≡ y) → option_to_list (if b then option_map (row_at w q) x else None) ≡ option_to_list (if b then option_map (row_at w q) y else None)
same_due w q true x y same = ap (λ o. option_to_list (option_map (row_at w q) o)) (same refl)
same_due w q false x y same = refl

-- the entries in order have what stands in each pane whose window fires
pub rows_fired : (w : WindowSpec) (t : ℤ) (f : Pane → Option Aggregated) (sorted : List (Pane × Aggregated)) → IsStrictlySortedBy pane_cmp (keys_of sorted)
    → ((q : Pane) → is_due w t q.start ≡ true → lookup (is_pane q) sorted ≡ f q) → AreRowsOf (fired w t f) (rows_due w t sorted)
rows_fired w t f sorted strict same q = rows_found w t sorted strict q ∙ same_due w q (is_due w t q.start) (lookup (is_pane q) sorted) (f q) (same q)

-- ---- in order

rise : (p : Pane) (w : WindowSpec) (t : ℤ) (es : List (Pane × Aggregated)) → AllByRecursion (λ q. pane_cmp p q ≡ Less) (keys_of es) → AllByRecursion (λ q. pane_cmp p q ≡ Less) (map pane_of (rows_due w t es))
rise p w t [] h = tt
rise p w t (e ∷ es) h = subst (λ l. AllByRecursion (λ q. pane_cmp p q ≡ Less) (map pane_of l)) (sym (rows_cons w t e es)) (by_case (is_due w t e.0.start) (rise p w t es h.1))
  where
    by_case : (b : Bool) → AllByRecursion (λ q. pane_cmp p q ≡ Less) (map pane_of (rows_due w t es))
        → AllByRecursion (λ q. pane_cmp p q ≡ Less) (map pane_of (cond b (row_at w e.0 e.1 ∷ rows_due w t es) (rows_due w t es)))
    by_case true later = (h.0, later)
    by_case false later = later

rows_rise : (w : WindowSpec) (t : ℤ) (es : List (Pane × Aggregated)) → IsStrictlySortedBy pane_cmp (keys_of es) → IsStrictlySortedBy pane_cmp (map pane_of (rows_due w t es))
unfolding IsStrictlySortedBy
rows_rise w t [] h = tt
rows_rise w t (e ∷ es) h = subst (λ l. IsStrictlySortedBy pane_cmp (map pane_of l)) (sym (rows_cons w t e es)) (by_case (is_due w t e.0.start) (rows_rise w t es h.1))
  where
    by_case : (b : Bool) → IsStrictlySortedBy pane_cmp (map pane_of (rows_due w t es))
        → IsStrictlySortedBy pane_cmp (map pane_of (cond b (row_at w e.0 e.1 ∷ rows_due w t es) (rows_due w t es)))
    by_case true later = (rise e.0 w t es h.0, later)
    by_case false later = later

not_back : (a b c d : ℤ) → ordering_then (int_cmp a c) (int_cmp b d) ≡ Less → is_lt (ordering_then (int_cmp c a) (int_cmp d b)) ≡ false
not_back a b c d h = grind (arith, ints)

in_order : (rows : List Row) → IsStrictlySortedBy pane_cmp (map pane_of rows) → IsSortedByKey pane_of pane_cmp rows
unfolding IsStrictlySortedBy
in_order [] h k d low high = absurd (omega arith)
in_order (x ∷ []) h k d low high = absurd (omega arith)
in_order (x ∷ y ∷ ys) h zero d low high = not_back x.start x.key y.start y.key h.0.0
in_order (x ∷ y ∷ ys) h (suc k) d low high =
    let e : suc k + 1 ≡ suc (k + 1) = omega arith in
    rw e (in_order (y ∷ ys) h.1 k d (omega arith) (omega arith))

pub rows_ordered : (w : WindowSpec) (t : ℤ) (es : List (Pane × Aggregated)) → IsStrictlySortedBy pane_cmp (keys_of es) → IsSortedByKey pane_of pane_cmp (rows_due w t es)
rows_ordered w t es strict = in_order (rows_due w t es) (rows_rise w t es strict)
