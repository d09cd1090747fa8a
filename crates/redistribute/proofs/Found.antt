-- What is found of a pane in lists that follow one another.
use Rattle.std.proofs.Common.{◌≡◌, ℕ, zero, suc, ◌+◌, ◌<◌, ◌≤◌, Bool, true, false, cond, List, [], ◌∷◌, ◌++◌, refl, ap, ◌∙◌, inl, inr, arith}
use Rattle.std.specs.Prelude.{Option, Some, None, if◌then◌else◌, ◌==◌}
use Rattle.std.specs.FinMap.{find}
use Rattle.std.specs.List.{flat_map, range_with_len}
use Rattle.std.specs.Option.{option_or}
use Rattle.std.specs.Ordering.{eq_by_cmp}
use Rattle.std.proofs.lemmas.Bool.{cases_eq, eq-eqb, ne_eqb}
use Rattle.plan_model.specs.Aggregates.{Aggregated}
use Rattle.plan_model.specs.declared.spec.Pane.{Pane}
use Rattle.plan_model.specs.Rows.{pane_cmp}
use Rattle.window_state.specs.declared.parts.Part.{Part}
use Rattle.window_state.specs.Parts.{entries_of}

or_test : {X : Type 0} (b : Bool) (x : X) (y z : Option X) → cond b (Some x) (option_or y z) ≡ option_or (cond b (Some x) y) z
or_test true x y z = refl
or_test false x y z = refl

pub or_none : {X : Type 0} (y : Option X) → option_or y None ≡ y
or_none None = refl
or_none (Some x) = refl

module _ (q : Pane) where
  pub find_in_both : (xs ys : List (Pane × Aggregated)) → find pane_cmp q (xs ++ ys) ≡ option_or (find pane_cmp q xs) (find pane_cmp q ys)
  find_in_both [] ys = refl
  find_in_both (x ∷ xs) ys = ap (cond (eq_by_cmp pane_cmp q x.0) (Some x.1)) (find_in_both xs ys) ∙ or_test (eq_by_cmp pane_cmp q x.0) x.1 (find pane_cmp q xs) (find pane_cmp q ys)

  abbrev pub found_in : List Part → Option Aggregated
  found_in parts = find pane_cmp q (entries_of parts)

  pub found_in_both : (xs ys : List Part) → found_in (xs ++ ys) ≡ option_or (found_in xs) (found_in ys)
  found_in_both [] ys = refl
  found_in_both (x ∷ xs) ys = ap (cond (eq_by_cmp pane_cmp q x.pane) (Some x.acc.total)) (found_in_both xs ys) ∙ or_test (eq_by_cmp pane_cmp q x.pane) x.acc.total (found_in xs) (found_in ys)

  none_from : (f : ℕ → List Part) (a n : ℕ) → ((t : ℕ) → a ≤ t → t < a + n → found_in (f t) ≡ None) → found_in (flat_map f (range_with_len a n)) ≡ None
  none_from f a zero h = refl
  none_from f a (suc n) h =
      found_in_both (f a) (flat_map f (range_with_len (a + 1) n))
      ∙ ap (λ o. option_or o (found_in (flat_map f (range_with_len (a + 1) n)))) (h a (omega arith) (omega arith))
      ∙ none_from f (a + 1) n (λ t l m. h t (omega (arith, l)) (omega (arith, m)))

  -- it stands in one of them alone
  pub one_from : (f : ℕ → List Part) (a n o : ℕ) (x : Option Aggregated) → a ≤ o → o < a + n → ((t : ℕ) → a ≤ t → t < a + n → found_in (f t) ≡ (if o == t then x else None)) → found_in (flat_map f (range_with_len a n)) ≡ x
  one_from f a zero o x l m h = absurd (omega (arith, l, m))
  one_from f a (suc n) o x l m h =
      let rest = flat_map f (range_with_len (a + 1) n) in
      found_in_both (f a) rest
      ∙ elim (cases_eq o a) [
        | inl e ↦
            (let first : found_in (f a) ≡ x = h a (omega arith) (omega arith) ∙ (let d = eq-eqb o a e in ap (λ b. if b then x else None) d) in
            let none : found_in rest ≡ None = none_from f (a + 1) n (λ t y z. h t (omega (arith, y)) (omega (arith, z)) ∙ (let d = ne_eqb o t (λ w. absurd (omega (arith, w, e, y))) in ap (λ b. if b then x else None) d)) in
            ap (option_or (found_in (f a))) none ∙ or_none (found_in (f a)) ∙ first)
        | inr ne ↦
            (let first : found_in (f a) ≡ None = h a (omega arith) (omega arith) ∙ (let d = ne_eqb o a ne in ap (λ b. if b then x else None) d) in
            ap (λ y. option_or y (found_in rest)) first ∙ one_from f (a + 1) n o x (omega (arith, l, ne)) (omega (arith, m)) (λ t y z. h t (omega (arith, y)) (omega (arith, z))))
      ]
