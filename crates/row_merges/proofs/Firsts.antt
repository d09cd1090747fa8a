-- Which of several rows stands first.
use Rattle.std.proofs.Common.{◌≡◌, ◌⊎◌, ℕ, ◌+◌, ◌<◌, ◌≤◌, inl, inr, false, option_map, List, length, get_or, Option, Some, None, refl, sym, ap, subst, ◌∙◌, arith}
use Rattle.std.specs.Prelude.{IfSome}
use Rattle.std.specs.Ordering.{is_gt}
use Rattle.std.proofs.lemmas.Bool.{cases_lt}
use Rattle.std.proofs.lemmas.Cmp.{upto}
use Rattle.plan_model.specs.declared.spec.Pane.{Pane}
use Rattle.plan_model.specs.Rows.{pane_cmp}
use Rattle.plan_model.proofs.Facts.{pane_cmp_total}
use Rattle.row_lines.specs.declared.place.RowPlace.{RowPlace}
use Rattle.row_merges.specs.Merges.{pane_in, IsUpTo, IsFirst}
use Rattle.row_merges.specs.declared.head.Head.{Head}
use Rattle.row_merges.proofs.Passing.{there, same_some}

-- the place that was found is that of the row at hand there
abbrev pub IsAt : {R : Type 0} → List (Head R) → Option (ℕ × Pane) → Type 0
IsAt {R} heads found = IfSome found (λ at. (d : Head R) → option_map pane_in (get_or heads at.0 d).row ≡ Some at.1)

-- and none of so many rows is before it
abbrev pub IsLeast : {R : Type 0} → List (Head R) → ℕ → Option (ℕ × Pane) → Type 0
IsLeast {R} heads count found = IfSome found (λ at. (k : ℕ) (d : Head R) → k < count → IsUpTo at.1 (get_or heads k d).row)

further : (a b : Pane) (o : Option RowPlace) → is_gt (pane_cmp a b) ≡ false → IsUpTo b o → IsUpTo a o
further a b None h k = tt
further a b (Some row) h k = upto pane_cmp_total a b row.pane h k

up_to_here : (a : Pane) (o : Option RowPlace) → IfSome (option_map pane_in o) (λ p. is_gt (pane_cmp a p) ≡ false) → IsUpTo a o
up_to_here a None h = tt
up_to_here a (Some row) h = h

module _ {R : Type 0} (heads : List (Head R)) (place : ℕ) (head : Head R) (lt : place < length heads) (is : head ≡ get_or heads place head) where
  pub at_more : (found next : Option (ℕ × Pane)) → IsAt heads found → IfSome next (λ at. (found ≡ Some at) ⊎ ((at.0 ≡ place) × (option_map pane_in head.row ≡ Some at.1))) → IsAt heads next
  at_more found None was now = tt
  at_more found (Some at) was now =
      elim now [
        | inl e ↦ subst (IsAt heads) e was
        | inr h ↦ λ d. subst (λ (j : ℕ). option_map pane_in (get_or heads j d).row ≡ Some at.1) (sym h.0) (ap (λ (x : Head R). option_map pane_in x.row) (sym (there heads place head d lt) ∙ sym is) ∙ h.1)
      ]

  here : (a : Pane) (k : ℕ) (d : Head R) → k ≡ place → IfSome (option_map pane_in head.row) (λ p. is_gt (pane_cmp a p) ≡ false) → IsUpTo a (get_or heads k d).row
  here a k d same h = subst (λ (x : Head R). IsUpTo a x.row) (is ∙ there heads place head d lt ∙ ap (λ (j : ℕ). get_or heads j d) (sym same)) (up_to_here a head.row h)

  pub least_more : (found next : Option (ℕ × Pane)) → (found ≡ None → (k : ℕ) (d : Head R) → k < place → (get_or heads k d).row ≡ None) → IsLeast heads place found
      → IfSome next (λ at. IfSome found (λ other. is_gt (pane_cmp at.1 other.1) ≡ false) × IfSome (option_map pane_in head.row) (λ p. is_gt (pane_cmp at.1 p) ≡ false)) → IsLeast heads (place + 1) next
  least_more found None none least now = tt
  least_more None (Some at) none least now = λ k d k_in.
      elim (cases_lt k place) [
        | inl less ↦ subst (IsUpTo at.1) (sym (none refl k d less)) tt
        | inr not_less ↦ here at.1 k d (omega arith) now.1
      ]
  least_more (Some other) (Some at) none least now = λ k d k_in.
      elim (cases_lt k place) [
        | inl less ↦ further at.1 other.1 (get_or heads k d).row now.0 (least k d less)
        | inr not_less ↦ here at.1 k d (omega arith) now.1
      ]

pub least_of_all : {R : Type 0} (heads : List (Head R)) (count : ℕ) (found : Option (ℕ × Pane)) → length heads ≤ count → IsLeast heads count found → IsLeast heads (length heads) found
least_of_all heads count None all least = tt
least_of_all heads count (Some at) all least = λ k d k_in. least k d (omega arith)

-- no row at hand is before the one that was found
pub first_of_all : {R : Type 0} (heads : List (Head R)) (found : Option (ℕ × Pane)) → IsAt heads found → IsLeast heads (length heads) found → IfSome found (λ at. IsFirst heads at.0)
first_of_all heads None at least = tt
first_of_all heads (Some found) at least = λ d row has k k_in.
    let same : found.1 ≡ row.pane = same_some found.1 row.pane (sym (at d) ∙ ap (option_map pane_in) has) in
    subst (λ p. IsUpTo p (get_or heads k d).row) same (least k d k_in)
