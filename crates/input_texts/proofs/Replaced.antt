-- A value for each of some names, of which one changes.
use Rattle.std.proofs.Common.{◌≡◌, ℕ, zero, suc, ◌<◌, Bool, true, false, not, cond, List, [], ◌∷◌, map, set, length, get_or, bytes_eq, arith, refl, sym, ap, ◌∙◌}
use Rattle.std.proofs.lemmas.Bool.{and_parts, or_parts, not-true}
use Rattle.std.proofs.lemmas.Slice.Eq.{bytes_eq-Decides}
use Rattle.std.specs.Cmp.Lexicographic.{nat_list_eq_equiv}
use Rattle.std.specs.List.{list_any}
use Rattle.plan_model.specs.Uids.{are_distinct}

module _ {S Y : Type 0} (name : S → List ℕ) (v w : S → Y) (k : List ℕ) (y : Y) (after : (s : S) → w s ≡ cond (bytes_eq (name s) k) y (v s)) where
  pub all_kept : (ss : List S) → list_any (λ s. bytes_eq (name s) k) ss ≡ false → map w ss ≡ map v ss
  all_kept [] none = refl
  all_kept (s ∷ ss) none =
      let parts = or_parts (bytes_eq (name s) k) (list_any (λ o. bytes_eq (name o) k) ss) none in
      let here : w s ≡ v s = after s ∙ ap (λ b. cond b y (v s)) parts.0 in
      rw (here, all_kept ss parts.1) refl

  flipped : (ss : List S) → list_any (bytes_eq k) (map name ss) ≡ list_any (λ s. bytes_eq (name s) k) ss
  flipped [] = refl
  flipped (s ∷ ss) = rw (nat_list_eq_equiv.symm k (name s), flipped ss) refl

  none_at : (test : List ℕ → Bool) (ss : List S) (place : ℕ) (d : S) → place < length ss → list_any test (map name ss) ≡ false → test (name (get_or ss place d)) ≡ false
  none_at test [] place d within none = absurd (omega arith)
  none_at test (s ∷ ss) zero d within none = (or_parts (test (name s)) (list_any test (map name ss)) none).0
  none_at test (s ∷ ss) (suc place) d within none = none_at test ss place d (omega arith) (or_parts (test (name s)) (list_any test (map name ss)) none).1

  pub one_replaced : (ss : List S) (place : ℕ) (d : S) → place < length ss → bytes_eq (name (get_or ss place d)) k ≡ true → are_distinct (map name ss) ≡ true → map w ss ≡ set (map v ss) place y
  one_replaced [] place d within found distinct = absurd (omega arith)
  one_replaced (s ∷ ss) zero d within found distinct =
      let parts = and_parts (not (list_any (bytes_eq (name s)) (map name ss))) (are_distinct (map name ss)) distinct in
      let same : name s ≡ k = (bytes_eq-Decides (name s) k).0 found in
      let none : list_any (bytes_eq k) (map name ss) ≡ false = rw same at (not-true _ parts.0) in
      let here : w s ≡ y = after s ∙ ap (λ b. cond b y (v s)) found in
      rw (here, all_kept ss (sym (flipped ss) ∙ none)) refl
  one_replaced (s ∷ ss) (suc place) d within found distinct =
      let parts = and_parts (not (list_any (bytes_eq (name s)) (map name ss))) (are_distinct (map name ss)) distinct in
      let same : name (get_or ss place d) ≡ k = (bytes_eq-Decides (name (get_or ss place d)) k).0 found in
      let inside : place < length ss = omega arith in
      let apart : bytes_eq (name s) k ≡ false = rw same at (none_at (bytes_eq (name s)) ss place d inside (not-true _ parts.0)) in
      let here : w s ≡ v s = after s ∙ ap (λ b. cond b y (v s)) apart in
      rw (here, one_replaced ss place d inside found parts.1) refl
