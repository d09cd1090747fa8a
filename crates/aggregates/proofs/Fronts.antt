-- A loop that writes a list from its front.
use Rattle.std.proofs.Common.{◌≡◌, ℕ, zero, suc, ℤ, ◌+◌, ◌<◌, ◌≤◌, List, [], ◌∷◌, ◌++◌, map, take, drop, set, length, get_or, refl, sym, ap, ◌∙◌, arith, append_assoc, FitsSigned, ◌^◌}
use Rattle.std.specs.Prelude.{unsigned_abs}
use Rattle.std.specs.Int.{w128}
use Rattle.std.specs.List.{All}
use Rattle.std.proofs.lemmas.Int.{ints}
use Rattle.std.proofs.lemmas.List.{drop_more, set_at, get_or_at, take_more, map_push, length-map, length-take}
use Rattle.aggregates.specs.declared.kind.Kind.{Kind}
use Rattle.aggregates.specs.Kinds.{merge_by, merge_all}

-- behind a front of n places, the element at n is written
pub writes_next : {X : Type 0} (front old now : List X) (n : ℕ) (v : X) → length front ≡ n → n < length old → now ≡ front ++ drop n old
    → set now n v ≡ (front ++ v ∷ []) ++ drop (n + 1) old
writes_next front old now n v is inside are =
    let split : now ≡ front ++ get_or old n v ∷ drop (n + 1) old = are ∙ ap (λ l. front ++ l) (drop_more old n v inside) in
    ap (λ l. set l n v) split
    ∙ set_at front (get_or old n v) (drop (n + 1) old) v n is
    ∙ sym (append_assoc front (v ∷ []) (drop (n + 1) old))

-- the element behind the front is still what it was
pub reads_next : {X : Type 0} (front old now : List X) (n : ℕ) (d : X) → length front ≡ n → n < length old → now ≡ front ++ drop n old → get_or now n d ≡ get_or old n d
reads_next front old now n d is inside are =
    ap (λ l. get_or l n d) (are ∙ ap (λ l. front ++ l) (drop_more old n d inside)) ∙ get_or_at front (get_or old n d) (drop (n + 1) old) d n is

length-map-take : {A X : Type 0} (f : A → X) (ks : List A) (n : ℕ) → n ≤ length ks → length (map f (take n ks)) ≡ n
length-map-take f ks n h = length-map (take n ks) f ∙ omega (arith, length-take n ks)

-- what f gives of the element at n is written
pub writes_map : {A X : Type 0} (f : A → X) (ks : List A) (old now : List X) (n : ℕ) (k0 : A) (v : X) → n < length ks → length ks ≤ length old
    → now ≡ map f (take n ks) ++ drop n old → v ≡ f (get_or ks n k0) → set now n v ≡ map f (take (n + 1) ks) ++ drop (n + 1) old
writes_map f ks old now n k0 v h room are is =
    writes_next (map f (take n ks)) old now n v (length-map-take f ks n (omega arith)) (omega arith) are
    ∙ ap (λ l. l ++ drop (n + 1) old) (ap (λ x. map f (take n ks) ++ x ∷ []) is ∙ sym (ap (map f) (take_more ks n k0 h) ∙ map_push f (take n ks) (get_or ks n k0)))

-- the first n numbers brought together
abbrev pub merged_front : List Kind → List ℤ → List ℤ → ℕ → List ℤ
merged_front ks xs ys n = merge_all (take n ks) (take n xs) (take n ys)

pub length-merged_front : (ks : List Kind) (xs ys : List ℤ) (n : ℕ) → n ≤ length ks → n ≤ length xs → n ≤ length ys → length (merged_front ks xs ys n) ≡ n
length-merged_front ks xs ys zero h i j = refl
length-merged_front [] xs ys (suc n) h i j = absurd (omega arith)
length-merged_front (k ∷ ks) [] ys (suc n) h i j = absurd (omega arith)
length-merged_front (k ∷ ks) (x ∷ xs) [] (suc n) h i j = absurd (omega arith)
length-merged_front (k ∷ ks) (x ∷ xs) (y ∷ ys) (suc n) h i j = ap suc (length-merged_front ks xs ys n (omega arith) (omega arith) (omega arith))

merged_front-suc : (ks : List Kind) (xs ys : List ℤ) (n : ℕ) (k0 : Kind) (d e : ℤ) → n < length ks → n < length xs → n < length ys
    → merged_front ks xs ys (suc n) ≡ merged_front ks xs ys n ++ merge_by (get_or ks n k0) (get_or xs n d) (get_or ys n e) ∷ []
merged_front-suc [] xs ys n k0 d e h i j = absurd (omega arith)
merged_front-suc (k ∷ ks) [] ys n k0 d e h i j = absurd (omega arith)
merged_front-suc (k ∷ ks) (x ∷ xs) [] n k0 d e h i j = absurd (omega arith)
merged_front-suc (k ∷ ks) (x ∷ xs) (y ∷ ys) zero k0 d e h i j = refl
merged_front-suc (k ∷ ks) (x ∷ xs) (y ∷ ys) (suc n) k0 d e h i j = ap (λ l. merge_by k x y ∷ l) (merged_front-suc ks xs ys n k0 d e (omega arith) (omega arith) (omega arith))

add-one' : (n : ℕ) → suc n ≡ n + 1
add-one' n = omega arith

-- the two numbers at n are brought together
pub writes_merged : (ks : List Kind) (old ys now : List ℤ) (n : ℕ) (k0 : Kind) (d e v : ℤ) → n < length ks → length ks ≤ length old → length ks ≤ length ys
    → now ≡ merged_front ks old ys n ++ drop n old → v ≡ merge_by (get_or ks n k0) (get_or now n d) (get_or ys n e)
    → set now n v ≡ merged_front ks old ys (n + 1) ++ drop (n + 1) old
writes_merged ks old ys now n k0 d e v h room others are is =
    let front : length (merged_front ks old ys n) ≡ n = length-merged_front ks old ys n (omega arith) (omega arith) (omega arith) in
    let read : get_or now n d ≡ get_or old n d = reads_next (merged_front ks old ys n) old now n d front (omega arith) are in
    writes_next (merged_front ks old ys n) old now n v front (omega arith) are
    ∙ ap (λ l. l ++ drop (n + 1) old)
    (ap (λ x. merged_front ks old ys n ++ x ∷ []) (is ∙ ap (λ x. merge_by (get_or ks n k0) x (get_or ys n e)) read)
    ∙ sym (merged_front-suc ks old ys n k0 d e h (omega arith) (omega arith))
    ∙ ap (merged_front ks old ys) (add-one' n))

-- the number at n is still small
pub small_next : (ks : List Kind) (old ys now : List ℤ) (n : ℕ) (d : ℤ) → n < length ks → length ks ≤ length old → length ks ≤ length ys
    → now ≡ merged_front ks old ys n ++ drop n old → All (λ z. unsigned_abs z ≤ 2 ^ 125) old → unsigned_abs (get_or now n d) ≤ 2 ^ 125
small_next ks old ys now n d h room others are small =
    let front : length (merged_front ks old ys n) ≡ n = length-merged_front ks old ys n (omega arith) (omega arith) (omega arith) in
    rw (reads_next (merged_front ks old ys n) old now n d front (omega arith) are) (small n d (omega arith))

pub fits_small : (z : ℤ) → unsigned_abs z ≤ 2 ^ 125 → FitsSigned w128 z
fits_small z h = grind (arith, ints)
