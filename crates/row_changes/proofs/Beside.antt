-- The numbers of two rows beside one another.
use Rattle.std.proofs.Common.{◌≡◌, ℕ, suc, ℤ, pos, ◌+◌, ◌<◌, ◌≤◌, min, Bool, true, false, not, ◌&&◌, eqb, List, [], ◌∷◌, ◌++◌, length, get_or, take, slice_get, Option, Some, None, rules, arith, refl, sym, ap, ◌∙◌, inl, inr, append_assoc, take_all, eq-eqb}
use Rattle.std.specs.List.{flat_map, zip}
use Rattle.std.specs.Option.{option_eq}
use Rattle.std.specs.Ordering.{int_eq}
use Rattle.std.proofs.lemmas.Bool.{cases_Bool, false≢true, eqb-true, not-true}
use Rattle.std.proofs.lemmas.Int.{ints}
use Rattle.std.proofs.lemmas.List.{flat_map_more, take_more}
use Rattle.std.proofs.lemmas.Option.{slice_get-get_or, get_or_from_slice_get, slice_get_within}
use Rattle.std.proofs.lemmas.Slice.Zip.{length-zip, get_or-zip}
use Rattle.row_changes.specs.Changes.{numbers_eq}

int_same : (x y : ℤ) → int_eq x y ≡ true → x ≡ y
int_same x y e = grind (arith, ints)

int_self : (x : ℤ) → int_eq x x ≡ true
int_self x = grind (arith, ints)

left : (a b : Bool) → (a && b) ≡ true → a ≡ true
left true b e = refl
left false b e = e

right : (a b : Bool) → (a && b) ≡ true → b ≡ true
right true b e = e
right false b e = absurd (false≢true e)

option_same : (o p : Option ℤ) → option_eq int_eq o p ≡ true → o ≡ p
option_same None None e = refl
option_same None (Some y) e = absurd (false≢true e)
option_same (Some x) None e = absurd (false≢true e)
option_same (Some x) (Some y) e = ap (λ z. Some z) (int_same x y e)

option_self : (o : Option ℤ) → option_eq int_eq o o ≡ true
option_self None = refl
option_self (Some x) = int_self x

numbers_same : (xs ys : List ℤ) → numbers_eq xs ys ≡ true → xs ≡ ys
numbers_same [] [] e = refl
numbers_same [] (y ∷ ys) e = absurd (false≢true e)
numbers_same (x ∷ xs) [] e = absurd (false≢true e)
numbers_same (x ∷ xs) (y ∷ ys) e =
    let head = int_same x y (left (int_eq x y) (numbers_eq xs ys) e) in
    let tail = numbers_same xs ys (right (int_eq x y) (numbers_eq xs ys) e) in
    λ i. head i ∷ tail i

numbers_self : (xs : List ℤ) → numbers_eq xs xs ≡ true
numbers_self [] = refl
numbers_self (x ∷ xs) = ap (λ b. b && numbers_eq xs xs) (int_self x) ∙ numbers_self xs

yes_from_no : (b : Bool) → not b ≡ false → b ≡ true
yes_from_no true e = refl
yes_from_no false e = absurd (false≢true (sym e))

-- numbers that differ at a place
pub differ_at : (xs ys : List ℤ) (i : ℕ) (o p : Option ℤ) → o ≡ slice_get xs i → p ≡ slice_get ys i → not (option_eq int_eq o p) ≡ true → false ≡ numbers_eq xs ys
differ_at xs ys i o p x y e = elim (cases_Bool (numbers_eq xs ys)) [
  | inl same ↦
      let both : o ≡ p = x ∙ ap (λ l. slice_get l i) (numbers_same xs ys same) ∙ sym y in
      absurd (false≢true (sym (not-true (option_eq int_eq o p) e) ∙ ap (λ q. option_eq int_eq o q) (sym both) ∙ option_self o))
  | inr other ↦ sym other
]

-- numbers that are alike at one more place
pub alike_more : (xs ys : List ℤ) (i : ℕ) (o p : Option ℤ) → o ≡ slice_get xs i → p ≡ slice_get ys i → not (option_eq int_eq o p) ≡ false → i < length xs → take i xs ≡ take i ys
    → (take (i + 1) xs ≡ take (i + 1) ys) × (i + 1 ≤ length ys)
alike_more xs ys i o p x y e lt so_far =
    let both : o ≡ p = option_same o p (yes_from_no (option_eq int_eq o p) e) in
    let z = get_or xs i (pos 0) in
    let at : slice_get ys i ≡ Some z = sym y ∙ sym both ∙ x ∙ slice_get-get_or xs i (pos 0) lt in
    let lt' : i < length ys = slice_get_within ys i z at in
    (take_more xs i (pos 0) lt ∙ ap (λ l. l ++ z ∷ []) so_far ∙ ap (λ v. take i ys ++ v ∷ []) (sym (get_or_from_slice_get ys i z (pos 0) at)) ∙ sym (take_more ys i (pos 0) lt'), omega arith)

-- numbers that are alike at all places of the first
pub alike_all : (xs ys : List ℤ) (n : ℕ) → length xs ≤ n → n ≤ length xs → n ≤ length ys → take n xs ≡ take n ys → eqb (length xs) (length ys) ≡ numbers_eq xs ys
alike_all xs ys n all within beside so_far = elim (cases_Bool (eqb (length xs) (length ys))) [
  | inl same ↦
      let long : length xs ≡ length ys = eqb-true (length xs) (length ys) same in
      let equal : xs ≡ ys = sym (take_all n xs all) ∙ so_far ∙ take_all n ys (omega arith) in
      same ∙ sym (numbers_self xs) ∙ ap (numbers_eq xs) equal
  | inr other ↦ elim (cases_Bool (numbers_eq xs ys)) [
    | inl same ↦ absurd (false≢true (sym other ∙ eq-eqb (length xs) (length ys) (ap (length {A = ℤ}) (numbers_same xs ys same))))
    | inr differ ↦ other ∙ sym differ
  ]
]

zip_at : (xs ys : List ℤ) (i : ℕ) (x y : ℤ) → slice_get xs i ≡ Some x → slice_get ys i ≡ Some y → (i < length (zip xs ys)) × (get_or (zip xs ys) i (pos 0, pos 0) ≡ (x, y))
zip_at xs ys i x y at_x at_y =
    let lt_x = slice_get_within xs i x at_x in
    let lt_y = slice_get_within ys i y at_y in
    let long = length-zip xs ys in
    (omega arith, get_or-zip xs ys i (pos 0, pos 0) lt_x lt_y ∙ (λ j. (get_or_from_slice_get xs i x (pos 0) at_x j, get_or_from_slice_get ys i y (pos 0) at_y j)))

-- one more pair
pub pair_more : (f : ℤ × ℤ → List ℕ) (xs ys : List ℤ) (i : ℕ) (x y : ℤ) (old now next : List ℕ) → slice_get xs i ≡ Some x → slice_get ys i ≡ Some y
    → next ≡ now ++ f (x, y) → now ≡ old ++ flat_map f (take i (zip xs ys)) → next ≡ old ++ flat_map f (take (i + 1) (zip xs ys))
pair_more f xs ys i x y old now next at_x at_y step so_far =
    let at = zip_at xs ys i x y at_x at_y in
    step ∙ ap (λ bytes. bytes ++ f (x, y)) so_far ∙ flat_map_more f old (take i (zip xs ys)) (x, y)
    ∙ ap (λ items. old ++ flat_map f items) (ap (λ p. take i (zip xs ys) ++ p ∷ []) (sym at.1) ∙ sym (take_more (zip xs ys) i (pos 0, pos 0) at.0))

pub all_pairs : (xs ys : List ℤ) (n : ℕ) → length xs ≤ n → take n (zip xs ys) ≡ zip xs ys
all_pairs xs ys n all = let long = length-zip xs ys in take_all n (zip xs ys) (omega arith)
