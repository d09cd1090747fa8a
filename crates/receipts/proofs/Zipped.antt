-- What is made of two lists, place by place.
use Rattle.std.proofs.Common.{◌≡◌, ℕ, zero, suc, ◌<◌, ◌≤◌, ◌+◌, List, [], ◌∷◌, ◌++◌, take, map, length, get_or, sym, ap, ◌∙◌, arith}
use Rattle.std.proofs.lemmas.List.{take_all, take_more, map-append}
use Rattle.std.specs.List.{AllZip}

-- such a function of two lists gives an item for each place
abbrev pub IsZip : {X Y Z : Type 0} → (X → Y → Z) → (List X → List Y → List Z) → Type 0
IsZip {X = X} {Y = Y} f h = (h [] [] ≡ []) × ((x : X) (y : Y) (xs : List X) (ys : List Y) → h (x ∷ xs) (y ∷ ys) ≡ f x y ∷ h xs ys)

-- the item at a place
zip_at : {X Y Z : Type 0} (R : X → Y → Type 0) (f : X → Y → Z) (h : List X → List Y → List Z) → IsZip f h → (xs : List X) (ys : List Y) (k : ℕ) (z : Z) (d : X) (e : Y) → AllZip R xs ys → k < length xs
    → get_or (h xs ys) k z ≡ f (get_or xs k d) (get_or ys k e)
zip_at R f h is [] ys k z d e all within = absurd (omega (arith, within))
zip_at R f h is (x ∷ xs) [] k z d e all within = absurd all
zip_at R f h is (x ∷ xs) (y ∷ ys) zero z d e all within = ap (λ l. get_or l 0 z) (is.1 x y xs ys)
zip_at R f h is (x ∷ xs) (y ∷ ys) (suc k) z d e all within = ap (λ l. get_or l (suc k) z) (is.1 x y xs ys) ∙ zip_at R f h is xs ys k z d e all.1 (omega (arith, within))

-- as many items as there are places
pub zip_long : {X Y Z : Type 0} (R : X → Y → Type 0) (f : X → Y → Z) (h : List X → List Y → List Z) → IsZip f h → (xs : List X) (ys : List Y) → AllZip R xs ys → length (h xs ys) ≡ length xs
zip_long R f h is [] [] all = ap (λ l. length l) is.0
zip_long R f h is [] (y ∷ ys) all = absurd all
zip_long R f h is (x ∷ xs) [] all = absurd all
zip_long R f h is (x ∷ xs) (y ∷ ys) all = omega (arith, ap (λ l. length l) (is.1 x y xs ys), zip_long R f h is xs ys all.1)

-- one more is made
pub made_more : {X Y Z W : Type 0} (R : X → Y → Type 0) (f : X → Y → Z) (h : List X → List Y → List Z) → IsZip f h → (g : Z → W) (xs : List X) (ys : List Y) (k : ℕ) (d : X) (e : Y) → AllZip R xs ys → k < length xs → (made : List W) (w : W)
    → made ≡ map g (take k (h xs ys)) → w ≡ g (f (get_or xs k d) (get_or ys k e)) → made ++ w ∷ [] ≡ map g (take (k + 1) (h xs ys))
made_more R f h is g xs ys k d e all within made w so_far one =
    let here = f (get_or xs k d) (get_or ys k e) in
    let before = take k (h xs ys) in
    let there : k < length (h xs ys) = omega (arith, within, zip_long R f h is xs ys all) in
    let more : take (k + 1) (h xs ys) ≡ before ++ here ∷ [] = take_more (h xs ys) k here there ∙ ap (λ z. before ++ z ∷ []) (zip_at R f h is xs ys k here d e all within) in
    ap (λ m. m ++ w ∷ []) so_far ∙ ap (λ x. map g before ++ x ∷ []) one ∙ sym (map-append g before (here ∷ [])) ∙ ap (map g) (sym more)

-- all was made behind the last place
pub made_all : {X Y Z W : Type 0} (R : X → Y → Type 0) (f : X → Y → Z) (h : List X → List Y → List Z) → IsZip f h → (g : Z → W) (xs : List X) (ys : List Y) (k : ℕ) → AllZip R xs ys → length xs ≤ k → map g (take k (h xs ys)) ≡ map g (h xs ys)
made_all R f h is g xs ys k all past = ap (map g) (take_all k (h xs ys) (omega (arith, past, zip_long R f h is xs ys all)))

-- and what holds place by place holds at each
pub at_each : {X Y : Type 0} (R : X → Y → Type 0) (xs : List X) (ys : List Y) (k : ℕ) (d : X) (e : Y) → AllZip R xs ys → k < length xs → R (get_or xs k d) (get_or ys k e)
at_each R [] ys k d e all within = absurd (omega (arith, within))
at_each R (x ∷ xs) [] k d e all within = absurd all
at_each R (x ∷ xs) (y ∷ ys) zero d e all within = all.0
at_each R (x ∷ xs) (y ∷ ys) (suc k) d e all within = at_each R xs ys k d e all.1 (omega (arith, within))
