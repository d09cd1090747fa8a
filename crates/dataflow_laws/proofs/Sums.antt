-- What leaves some tasks and what comes into them, in sums.
use Rattle.std.proofs.Common.{◌≡◌, ℕ, zero, suc, ◌+◌, ◌<◌, ◌≤◌, sym, ap, ◌∙◌, inl, inr, arith}
use Rattle.std.proofs.lemmas.Bool.{cases_eq}
use Rattle.dataflow_model.specs.Sums.{total}
use Rattle.dataflow_model.proofs.Facts.{total_same, total_add, total_swap, total_front}

-- a sum in which only the terms below p and the one at u are not 0
total_beyond : (n p u : ℕ) (f : ℕ → ℕ) → p ≤ u → u < n → ((k : ℕ) → p ≤ k → k < n → (k ≡ u → ⊥) → f k ≡ 0) → total n f ≡ total p f + f u
total_beyond zero p u f l m h = absurd (omega arith)
total_beyond (suc n) p u f l m h =
    elim (cases_eq u n) [
      | inl e ↦
          let a : total n f ≡ total p f = total_front n p f (omega arith) (λ k a b. h k a (omega arith) (λ q. absurd (omega arith))) in
          let z : f u ≡ f n = ap f e in
          omega arith
      | inr ne ↦
          let z : f n ≡ 0 = h n (omega arith) (omega arith) (λ q. ne (sym q)) in
          omega (arith, z, total_beyond n p u f l (omega arith) (λ k a b. h k a (omega arith)))
    ]

-- what leaves the tasks below p for the task u is what comes into them
pub flow : (n p u : ℕ) (w : ℕ → ℕ → ℕ) (src : ℕ → ℕ) → p ≤ u → u < n → ((s t : ℕ) → t < p → p ≤ s → s < n → w s t ≡ 0) → ((t v : ℕ) → t < p → p ≤ v → v < n → (v ≡ u → ⊥) → w t v ≡ 0) → ((t : ℕ) → t < p → total n (λ v. w t v) ≡ total n (λ s. w s t) + src t) → total p (λ t. w t u) ≡ total p src
flow n p u w src l m back other kept =
    let a : total p (λ t. total n (λ v. w t v)) ≡ total p (λ t. total p (λ v. w t v) + w t u) = total_same p _ _ (λ t h. total_beyond n p u (λ v. w t v) l m (λ k x y z. other t k h x y z)) in
    let a' = total_add p (λ t. total p (λ v. w t v)) (λ t. w t u) in
    let b : total p (λ t. total n (λ v. w t v)) ≡ total p (λ t. total p (λ s. w s t) + src t) = total_same p _ _ (λ t h. kept t h ∙ ap (λ x. x + src t) (total_front n p (λ s. w s t) (omega arith) (λ k x y. back k t h x y))) in
    let b' = total_add p (λ t. total p (λ s. w s t)) src in
    let c = total_swap p p w in
    omega (arith, a, a', b, b', c)
