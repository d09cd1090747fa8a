-- Parts that stand behind commas, and their bytes.
use Rattle.std.proofs.Common.{◌≡◌, ℕ, ◌<◌, ◌≤◌, ◌-◌, ◌+◌, ◌*◌, suc, List, [], ◌∷◌, ◌++◌, map, length, drop, drop-cons, get_or, ap, ◌∙◌, arith}
use Rattle.std.specs.List.{flat_map, join_with_byte}
use Rattle.std.proofs.Math.Nat.{suc-mul}
use Rattle.std.proofs.lemmas.List.{append-nil}
use Rattle.std.proofs.lemmas.List.Concat.{flat_map-cons}

-- a comma before each part is one before the first, and one between each two
pub commas : {X : Type 0} (f : X → List ℕ) (xs : List X) → 0 < length xs → flat_map (λ y. 44 ∷ f y) xs ≡ 44 ∷ join_with_byte 44 (map f xs)
commas f [] some = absurd (omega arith)
commas f (x ∷ []) some = ap (λ l. 44 ∷ l) (append-nil (f x))
commas f (x ∷ y ∷ ys) some = ap (λ l. 44 ∷ (f x ++ l)) (commas f (y ∷ ys) (omega arith))

-- one part more before the others
pub one_before : {X : Type 0} (f : X → List ℕ) (xs : List X) (d : X) (left : ℕ) → 0 < left → left ≤ length xs → flat_map f (drop (left - 1) xs) ≡ f (get_or xs (left - 1) d) ++ flat_map f (drop left xs)
one_before f xs d left some few =
    let within : left - 1 < length xs = omega arith in
    let next : suc (left - 1) ≡ left = omega arith in
    ap (flat_map f) (drop-cons xs (left - 1) d within ∙ ap (λ k. get_or xs (left - 1) d ∷ drop k xs) next) ∙ flat_map-cons f (get_or xs (left - 1) d) (drop left xs)

-- room for so many parts is room for one and for the others
pub room_before : (left most : ℕ) → 0 < left → left * most ≡ (left - 1) * most + most
room_before left most some =
    let next : left ≡ suc (left - 1) = omega arith in
    ap (λ k. k * most) next ∙ suc-mul (left - 1) most
