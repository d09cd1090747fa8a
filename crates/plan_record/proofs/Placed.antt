-- Bounds with their places.
use Rattle.std.proofs.Common.{◌≡◌, ℕ, suc, ◌+◌, ◌<◌, ◌≤◌, ℤ, pos, List, [], ◌∷◌, ◌++◌, map, length, Option, Some, None, refl, sym, ap, ◌∙◌, arith}
use Rattle.std.proofs.lemmas.List.{length-map, map-append}
use Rattle.plan_record.specs.PlanRecord.{placed}

pub length-placed : (i : ℕ) (bounds : List (Option ℤ)) → length (placed i bounds) ≤ length bounds
length-placed i [] = omega arith
length-placed i (None ∷ bounds) = omega (arith, length-placed (suc i) bounds)
length-placed i (Some b ∷ bounds) = omega (arith, length-placed (suc i) bounds)

-- one more bound
placed_push : (i : ℕ) (bounds : List (Option ℤ)) (b : Option ℤ) → placed i (bounds ++ b ∷ []) ≡ placed i bounds ++ placed (i + length bounds) (b ∷ [])
placed_push i [] b = let e : i + 0 ≡ i = omega arith in rw e refl
placed_push i (None ∷ bounds) b = let e : i + suc (length bounds) ≡ suc i + length bounds = omega arith in rw e (placed_push (suc i) bounds b)
placed_push i (Some c ∷ bounds) b =
    let e : i + suc (length bounds) ≡ suc i + length bounds = omega arith in
    rw e (ap (λ (more : List (ℕ × ℤ)). (i, c) ∷ more) (placed_push (suc i) bounds b))

pub placed_next : (bounds : List (Option ℤ)) (b : Option ℤ) (place : ℕ) (old new : List (ℕ × ℤ)) → place ≡ length bounds → old ≡ placed 0 bounds → new ≡ old ++ placed place (b ∷ []) → new ≡ placed 0 (bounds ++ b ∷ [])
placed_next bounds b place old new is_place is_old is_new =
    let from_0 : 0 + length bounds ≡ length bounds = omega arith in
    is_new ∙ rw (is_place, is_old) (ap (λ (i : ℕ). placed 0 bounds ++ placed i (b ∷ [])) (sym from_0) ∙ sym (placed_push 0 bounds b))

-- one more of what is seen
pub seen_next : {A B : Type 0} (f : List ℕ → Option ℤ) (g : B → List ℕ) (h : A → B) (xs : List A) (x : A) → map f (map g (map h (xs ++ x ∷ []))) ≡ map f (map g (map h xs)) ++ f (g (h x)) ∷ []
seen_next f g h xs x = ap (λ ys. map f (map g ys)) (map-append h xs (x ∷ [])) ∙ ap (map f) (map-append g (map h xs) (h x ∷ [])) ∙ map-append f (map g (map h xs)) (g (h x) ∷ [])

pub length-seen : {A B : Type 0} (f : List ℕ → Option ℤ) (g : B → List ℕ) (h : A → B) (xs : List A) → length (map f (map g (map h xs))) ≡ length xs
length-seen f g h xs = length-map (map g (map h xs)) f ∙ length-map (map h xs) g ∙ length-map xs h

-- ---- the same bounds

first_place : List (ℕ × ℤ) → ℕ
first_place [] = 0
first_place (b ∷ bounds) = b.0

first_bound : List (ℕ × ℤ) → ℤ
first_bound [] = pos 0
first_bound (b ∷ bounds) = b.1

others_of : List (ℕ × ℤ) → List (ℕ × ℤ)
others_of [] = []
others_of (b ∷ bounds) = bounds

-- the places rise
not_before : (i j : ℕ) (bounds : List (Option ℤ)) (b : ℤ) (rest : List (ℕ × ℤ)) → i < j → placed j bounds ≡ (i, b) ∷ rest → ⊥
unfolding first_place
not_before i j [] b rest lt e = absurd cc
not_before i j (None ∷ bounds) b rest lt e = not_before i (suc j) bounds b rest (omega (arith, lt)) e
not_before i j (Some c ∷ bounds) b rest lt e = let same : j ≡ i = ap first_place e in absurd (omega (arith, same, lt))

pub placed_same : (i : ℕ) (bounds others : List (Option ℤ)) → length bounds ≡ length others → placed i bounds ≡ placed i others → bounds ≡ others
unfolding first_bound others_of
placed_same i [] [] len e = refl
placed_same i [] (c ∷ others) len e = absurd cc
placed_same i (b ∷ bounds) [] len e = absurd cc
placed_same i (None ∷ bounds) (None ∷ others) len e = ap (λ (more : List (Option ℤ)). None ∷ more) (placed_same (suc i) bounds others (omega (arith, len)) e)
placed_same i (None ∷ bounds) (Some c ∷ others) len e = absurd (not_before i (suc i) bounds c (placed (suc i) others) (omega arith) e)
placed_same i (Some b ∷ bounds) (None ∷ others) len e = absurd (not_before i (suc i) others b (placed (suc i) bounds) (omega arith) (sym e))
placed_same i (Some b ∷ bounds) (Some c ∷ others) len e =
    let value : b ≡ c = ap first_bound e in
    let rest : placed (suc i) bounds ≡ placed (suc i) others = ap others_of e in
    rw value (ap (λ (more : List (Option ℤ)). Some c ∷ more) (placed_same (suc i) bounds others (omega (arith, len)) rest))
