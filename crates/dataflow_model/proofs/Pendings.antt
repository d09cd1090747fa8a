-- What is made pending for one output, and the log that it comes to.
use Rattle.std.proofs.Common.{◌≡◌, ℕ, zero, suc, ◌<◌, ◌≤◌, List, [], ◌∷◌, ◌++◌, cond, eqb, map, refl, sym, ap, subst, append-nil, append_assoc, ◌∙◌, inl, inr, arith}
use Rattle.std.proofs.lemmas.Bool.{cases_eq, cases_Bool, eq-eqb, ne_eqb}
use Rattle.dataflow_model.specs.declared.message.Message.{Message}
use Rattle.dataflow_model.specs.Routes.{spread}
use Rattle.dataflow_model.specs.Runs.{only, onto}

pub only_append : (j : ℕ) (xs ys : List (ℕ × Message)) → only j (xs ++ ys) ≡ only j xs ++ only j ys
only_append j [] ys = refl
only_append j (x ∷ xs) ys =
    elim (cases_Bool (eqb j x.0)) [
      | inl e ↦ rw e (ap (λ l. x.1 ∷ l) (only_append j xs ys))
      | inr e ↦ rw e (only_append j xs ys)
    ]

only_map_same : (j : ℕ) (ms : List Message) → only j (map (λ m. (j, m)) ms) ≡ ms
only_map_same j [] = refl
only_map_same j (m ∷ ms) = let e = eq-eqb j j refl in rw e (ap (λ l. m ∷ l) (only_map_same j ms))

only_map_other : (j n : ℕ) (ms : List Message) → (j ≡ n → ⊥) → only j (map (λ m. (n, m)) ms) ≡ []
only_map_other j n [] ne = refl
only_map_other j n (m ∷ ms) ne = let e = ne_eqb j n ne in rw e (only_map_other j n ms ne)

pub only_past : (n : ℕ) (f : ℕ → List Message) (j : ℕ) → n ≤ j → only j (spread n f) ≡ []
only_past zero f j l = refl
only_past (suc n) f j l =
    only_append j (spread n f) (map (λ m. (n, m)) (f n))
    ∙ ap (λ a. a ++ only j (map (λ m. (n, m)) (f n))) (only_past n f j (omega arith))
    ∙ only_map_other j n (f n) (λ e. absurd (omega arith))

append_none : (xs ys : List Message) → ys ≡ [] → xs ++ ys ≡ xs
append_none xs ys e = rw e (append-nil xs)

pub only_spread : (n : ℕ) (f : ℕ → List Message) (j : ℕ) → j < n → only j (spread n f) ≡ f j
only_spread zero f j l = absurd (omega arith)
only_spread (suc n) f j l =
    only_append j (spread n f) (map (λ m. (n, m)) (f n)) ∙
    elim (cases_eq j n) [
      | inl e ↦ ap (λ a. a ++ only j (map (λ m. (n, m)) (f n))) (only_past n f j (omega arith)) ∙ subst (λ q. only j (map (λ m. (q, m)) (f q)) ≡ f j) e (only_map_same j (f j))
      | inr ne ↦ append_none (only j (spread n f)) (only j (map (λ m. (n, m)) (f n))) (only_map_other j n (f n) ne) ∙ only_spread n f j (omega arith)
    ]

-- a put leaves what was given
pub given_put : (j i : ℕ) (m : Message) (rest : List (ℕ × Message)) (log : List Message) → onto (only j rest) (cond (eqb j i) (m ∷ log) log) ≡ onto (only j ((i, m) ∷ rest)) log
given_put j i m rest log = elim (cases_Bool (eqb j i)) [ inl e ↦ rw e refl | inr e ↦ rw e refl ]

-- what is given after a task pends f with nothing pending
pub given_spread : (n : ℕ) (f : ℕ → List Message) (j : ℕ) (log : List Message) (p : List (ℕ × Message)) → p ≡ [] → j < n → onto (only j (spread n f)) log ≡ onto (f j) (onto (only j p) log)
given_spread n f j log p e l = ap (λ ms. onto ms log) (only_spread n f j l) ∙ ap (λ q. onto (f j) (onto (only j q) log)) (sym e)

-- a log with messages put after it stands at its end
pub onto_ahead : (ms log : List Message) → (x : List Message) × (onto ms log ≡ x ++ log)
onto_ahead [] log = ([], refl)
onto_ahead (m ∷ ms) log = let a = onto_ahead ms (m ∷ log) in (a.0 ++ m ∷ [], a.1 ∙ sym (append_assoc a.0 (m ∷ []) log))
