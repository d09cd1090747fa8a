-- The elements that a mask keeps.
use Rattle.std.proofs.Common.{◌≡◌, ℕ, ◌+◌, ◌<◌, ◌≤◌, Bool, true, false, cond, List, [], ◌∷◌, ◌++◌, length, map, take, get_or, set, inl, inr, eq-eqb, ◌==◌, refl, sym, ap, ◌∙◌, arith}
use Rattle.std.specs.List.{All, range_with_len}
use Rattle.std.proofs.lemmas.List.Elements.{All-nil, All-cons, All-head, All-tail, All-from_get_or}
use Rattle.std.proofs.lemmas.List.FromFn.{fill_by_all, map-range_with_len_more, length-range_with_len, get_or-range_with_len}
use Rattle.std.proofs.lemmas.List.{length-take-le, take_more, take-map, map-id, append-nil, length-map, get_or-map, get_or-set_same, get_or-set_other}
use Rattle.std.proofs.lemmas.Bool.{cases_eq, ne_eqb}
use native.Mathlib.Nat.{suc_inj, suc-ne-zero}
use Rattle.columns.specs.Parts.{kept}

-- one element more
pub kept-push : {X : Type 0} (mask : List Bool) (xs : List X) (m : Bool) (x : X) → length mask ≡ length xs
    → kept (mask ++ m ∷ []) (xs ++ x ∷ []) ≡ kept mask xs ++ cond m (x ∷ []) []
kept-push [] [] true x e = refl
kept-push [] [] false x e = refl
kept-push [] (y ∷ ys) m x e = absurd (suc-ne-zero (length ys) (sym e))
kept-push (b ∷ bs) [] m x e = absurd (suc-ne-zero (length bs) e)
kept-push (true ∷ bs) (y ∷ ys) m x e = ap (λ t. y ∷ t) (kept-push bs ys m x (suc_inj e))
kept-push (false ∷ bs) (y ∷ ys) m x e = kept-push bs ys m x (suc_inj e)

pub kept-map : {X Y : Type 0} (f : X → Y) (mask : List Bool) (xs : List X) → kept mask (map f xs) ≡ map f (kept mask xs)
kept-map f [] xs = refl
kept-map f (b ∷ bs) [] = refl
kept-map f (true ∷ bs) (x ∷ xs) = ap (λ t. f x ∷ t) (kept-map f bs xs)
kept-map f (false ∷ bs) (x ∷ xs) = kept-map f bs xs

pub All-kept : {X : Type 0} (P : X → Type 0) (mask : List Bool) (xs : List X) → All P xs → All P (kept mask xs)
All-kept P [] xs all = All-nil P
All-kept P (b ∷ bs) [] all = All-nil P
All-kept P (true ∷ bs) (x ∷ xs) all = All-cons P x (kept bs xs) (All-head P x xs all) (All-kept P bs xs (All-tail P x xs all))
All-kept P (false ∷ bs) (x ∷ xs) all = All-kept P bs xs (All-tail P x xs all)

pub length-kept : {X : Type 0} (mask : List Bool) (xs : List X) → length (kept mask xs) ≤ length xs
length-kept [] xs = omega arith
length-kept (b ∷ bs) [] = omega arith
length-kept (true ∷ bs) (x ∷ xs) = omega (arith, length-kept bs xs)
length-kept (false ∷ bs) (x ∷ xs) = omega (arith, length-kept bs xs)

-- the places below n that a mask keeps are below n, and at most n
pub places_below : (mask : List Bool) (n : ℕ) → All (λ place. place < n) (kept mask (range_with_len 0 n))
places_below mask n =
    All-kept (λ place. place < n) mask (range_with_len 0 n)
    (All-from_get_or (λ place. place < n) (range_with_len 0 n) 0 (λ k h. let inside : k < n = omega (arith, length-range_with_len 0 n) in omega (arith, get_or-range_with_len 0 n k 0 inside)))

pub places_few : (mask : List Bool) (n : ℕ) → length (kept mask (range_with_len 0 n)) ≤ n
places_few mask n = omega (arith, length-kept mask (range_with_len 0 n), length-range_with_len 0 n)

-- what a mask keeps is what stands at the places that it keeps
pub kept_at_places : {X : Type 0} (mask : List Bool) (xs : List X) (d : X) → map (λ place. get_or xs place d) (kept mask (range_with_len 0 (length xs))) ≡ kept mask xs
kept_at_places mask xs d =
    let at = λ (place : ℕ). get_or xs place d in
    sym (ap (kept mask) (fill_by_all at xs (length xs) d refl (λ k h. refl)) ∙ kept-map at mask (range_with_len 0 (length xs)))

pub range_more : (n : ℕ) → range_with_len 0 (n + 1) ≡ range_with_len 0 n ++ n ∷ []
range_more n = sym (map-id (range_with_len 0 (n + 1))) ∙ map-range_with_len_more (λ k. k) 0 n n (omega arith) ∙ ap (λ t. t ++ n ∷ []) (map-id (range_with_len 0 n))

-- one place more of a mask
pub places_more : (mask : List Bool) (i : ℕ) → i < length mask
    → kept (take (i + 1) mask) (range_with_len 0 (i + 1)) ≡ kept (take i mask) (range_with_len 0 i) ++ cond (get_or mask i false) (i ∷ []) []
places_more mask i h =
    let even : length (take i mask) ≡ length (range_with_len 0 i) = length-take-le i mask (omega arith) ∙ sym (length-range_with_len 0 i) in
    (λ o. kept (take_more mask i false h o) (range_more i o)) ∙ kept-push (take i mask) (range_with_len 0 i) (get_or mask i false) i even

-- one place more, of those with target t
pub targets_more : (t i : ℕ) (targets : List ℕ) → i < length targets
    → kept (map (λ target. target == t) (take (i + 1) targets)) (range_with_len 0 (i + 1))
    ≡ kept (map (λ target. target == t) (take i targets)) (range_with_len 0 i) ++ cond (get_or targets i 0 == t) (i ∷ []) []
targets_more t i targets h =
    let f = λ (target : ℕ). target == t in
    let there : i < length (map f targets) = omega (arith, length-map targets f) in
    ap (λ (m : List Bool). kept m (range_with_len 0 (i + 1))) (sym (take-map f (i + 1) targets)) ∙ places_more (map f targets) i there
    ∙ (λ o. kept (take-map f i targets o) (range_with_len 0 i) ++ cond (get_or-map f targets i 0 false h o) (i ∷ []) [])

-- a list of places for each target, with one place more
pub dealt : (lists : List (List ℕ)) (targets : List ℕ) (i n t : ℕ) → i < length targets → length lists ≡ n → get_or targets i 0 < n
    → ((t : ℕ) → t < n → get_or lists t [] ≡ kept (map (λ target. target == t) (take i targets)) (range_with_len 0 i)) → t < n
    → get_or (set lists (get_or targets i 0) (get_or lists (get_or targets i 0) [] ++ i ∷ [])) t []
    ≡ kept (map (λ target. target == t) (take (i + 1) targets)) (range_with_len 0 (i + 1))
dealt lists targets i n t h long below each t_in =
    let u = get_or targets i 0 in
    let more = targets_more t i targets h in
    elim (cases_eq t u) [
      | inl e ↦ (
          let yes' : (u == t) ≡ true = eq-eqb u t (sym e) in
          ap (λ k. get_or (set lists u (get_or lists u [] ++ i ∷ [])) k []) e ∙ get_or-set_same lists u (get_or lists u [] ++ i ∷ []) [] (omega arith)
          ∙ ap (λ k. get_or lists k [] ++ i ∷ []) (sym e) ∙ ap (λ (o : List ℕ). o ++ i ∷ []) (each t t_in)
          ∙ sym (more ∙ ap (λ b. kept (map (λ target. target == t) (take i targets)) (range_with_len 0 i) ++ cond b (i ∷ []) []) yes'))
      | inr ne ↦ (
          let no' : (u == t) ≡ false = ne_eqb u t (λ q. ne (sym q)) in
          get_or-set_other lists u t (get_or lists u [] ++ i ∷ []) [] ne ∙ each t t_in
          ∙ sym (more ∙ ap (λ b. kept (map (λ target. target == t) (take i targets)) (range_with_len 0 i) ++ cond b (i ∷ []) []) no' ∙ append-nil _))
    ]
