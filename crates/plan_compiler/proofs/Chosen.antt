-- The numbers that pass a test, one after another.
use Rattle.std.proofs.Common.{◌≡◌, ℕ, suc, ◌+◌, List, [], ◌∷◌, ◌++◌, Bool, true, false, append-nil, refl, sym, ap, ◌∙◌, arith}
use Rattle.layout_rules.specs.Below.{filter_below}

pub one_chosen : (test : ℕ → Bool) (n : ℕ) (xs ys : List ℕ) → ys ≡ xs ++ n ∷ [] → xs ≡ filter_below test n → test n ≡ true → ys ≡ filter_below test (n + 1)
one_chosen test n xs ys e f h = let q : n + 1 ≡ suc n = omega arith in e ∙ ap (λ zs. zs ++ n ∷ []) f ∙ sym (ap (filter_below test) q ∙ rw h refl)

pub none_chosen : (test : ℕ → Bool) (n : ℕ) (xs : List ℕ) → xs ≡ filter_below test n → test n ≡ false → xs ≡ filter_below test (n + 1)
none_chosen test n xs f h = let q : n + 1 ≡ suc n = omega arith in f ∙ sym (ap (filter_below test) q ∙ rw h (append-nil (filter_below test n)))
