-- The words of a place, written and read.
use Rattle.std.proofs.Common.{◌≡◌, ℕ, ℤ, ◌+◌, ◌*◌, ◌<◌, ◌≤◌, true, List, [], ◌∷◌, map, drop, length, get_or, refl, sym, ap, subst, ◌∙◌, arith, FitsSigned, to_z, of_z, set, negsuc, ◌+ℤ◌, ◌^◌, pos}
use Rattle.std.specs.Int.{w64}
use Rattle.std.proofs.lemmas.Int.{ints, to_z-of_z}
use Rattle.std.proofs.lemmas.List.{drop_more, length-set, get_or-set_other}
use Rattle.plan_model.specs.declared.spec.Aggregate.{Aggregate}
use Rattle.plan_model.specs.declared.spec.Aggregate.TheVariants as aggregate
use Rattle.aggregates.specs.declared.kind.Kind.{Kind}
use Rattle.aggregates.specs.declared.kind.Kind.TheVariants.{Count, Sum, Least, Greatest}
use Rattle.aggregates.specs.Kinds.{kind_of, is_number, are_numbers}
use Rattle.place_words.specs.Words.{width_of, width, stride, word, sum_of, number_at, numbers_at, count_of, acc_in, IsWritten}
use Rattle.byte_fields.proofs.Exact.{both}

-- the same words below x
abbrev pub AgreeBelow : ℕ → List ℤ → List ℤ → Type 0
AgreeBelow x ws vs = (k : ℕ) → k < x → word vs k ≡ word ws k

-- n words from x on are those from y on
abbrev pub IsSameFrom : ℕ → List ℤ → ℕ → List ℤ → ℕ → Type 0
IsSameFrom n ws x vs y = (k : ℕ) → k < n → word vs (y + k) ≡ word ws (x + k)

pub number-same : (count : ℕ) (k : Kind) (ws vs : List ℤ) (x y : ℕ) → IsSameFrom (width_of k) ws x vs y → number_at count k vs y ≡ number_at count k ws x
number-same count Count ws vs x y h = refl
number-same count Sum ws vs x y h =
    let first : word vs y ≡ word ws x = (λ i. word vs (plain y i)) ∙ h 0 (omega arith) ∙ (λ i. word ws (sym (plain x) i)) in
    λ i. sum_of (first i) (h 1 (omega arith) i)
  where
    plain : (z : ℕ) → z ≡ z + 0
    plain z = omega arith
number-same count Least ws vs x y h = (λ i. word vs (plain y i)) ∙ h 0 (omega arith) ∙ (λ i. word ws (sym (plain x) i))
  where
    plain : (z : ℕ) → z ≡ z + 0
    plain z = omega arith
number-same count Greatest ws vs x y h = (λ i. word vs (plain y i)) ∙ h 0 (omega arith) ∙ (λ i. word ws (sym (plain x) i))
  where
    plain : (z : ℕ) → z ≡ z + 0
    plain z = omega arith

pub numbers-same : (count : ℕ) (ks : List Kind) (ws vs : List ℤ) (x y : ℕ) → IsSameFrom (width ks) ws x vs y → numbers_at count ks vs y ≡ numbers_at count ks ws x
numbers-same count [] ws vs x y h = refl
numbers-same count (k ∷ ks) ws vs x y h =
    let first = number-same count k ws vs x y (λ j low. h j (omega (arith, low))) in
    let rest = numbers-same count ks ws vs (x + width_of k) (y + width_of k) (λ j low.
    let at = λ (z : ℕ). (let e : z + width_of k + j ≡ z + (width_of k + j) = omega arith in e) in
    (λ i. word vs (at y i)) ∙ h (width_of k + j) (omega (arith, low)) ∙ (λ i. word ws (sym (at x) i))) in
    λ i. first i ∷ rest i

-- so is what stands there
pub acc-same : (ks : List Kind) (ws vs : List ℤ) (x y : ℕ) → IsSameFrom (stride ks) ws x vs y → acc_in ks vs y ≡ acc_in ks ws x
acc-same ks ws vs x y h =
    let plain = λ (z : ℕ). (let e : z ≡ z + 0 = omega arith in e) in
    let count : word vs y ≡ word ws x = (λ i. word vs (plain y i)) ∙ h 0 (omega arith) ∙ (λ i. word ws (sym (plain x) i)) in
    let at = λ (z j : ℕ). (let e : z + 1 + j ≡ z + (1 + j) = omega arith in e) in
    let rest = λ (n : ℕ). numbers-same n ks ws vs (x + 1) (y + 1) (λ j low. (λ i. word vs (at y j i)) ∙ h (1 + j) (omega (arith, low)) ∙ (λ i. word ws (sym (at x j) i))) in
    λ i. record { kinds = ks; total = record { count = count_of (count i); numbers = (ap (λ w. numbers_at (count_of w) ks vs (y + 1)) count ∙ rest (count_of (word ws x))) i } }

-- ---- one aggregate after the other

pub width-few : (ks : List Kind) → width ks ≤ 2 * length ks
width-few [] = omega arith
width-few (Count ∷ ks) = omega (arith, width-few ks)
width-few (Sum ∷ ks) = omega (arith, width-few ks)
width-few (Least ∷ ks) = omega (arith, width-few ks)
width-few (Greatest ∷ ks) = omega (arith, width-few ks)

-- the aggregates that are left, with the next of them
pub rest_next : (aggregates : List Aggregate) (i : ℕ) → i < length aggregates → drop i aggregates ≡ get_or aggregates i aggregate.Count ∷ drop (i + 1) aggregates
rest_next aggregates i h = drop_more aggregates i aggregate.Count h

abbrev pub kind_at : List Aggregate → ℕ → Kind
kind_at aggregates i = kind_of (get_or aggregates i aggregate.Count)

abbrev pub kinds_from : List Aggregate → ℕ → List Kind
kinds_from aggregates i = map kind_of (drop i aggregates)

pub kinds_next : (aggregates : List Aggregate) (i : ℕ) → i < length aggregates → kinds_from aggregates i ≡ kind_at aggregates i ∷ kinds_from aggregates (i + 1)
kinds_next aggregates i h = ap (map kind_of) (rest_next aggregates i h)

pub end_next : (aggregates : List Aggregate) (i x y e : ℕ) → i < length aggregates → y ≡ width_of (kind_at aggregates i) → x + width (kinds_from aggregates i) ≡ e → x + y + width (kinds_from aggregates (i + 1)) ≡ e
end_next aggregates i x y e low is h =
    let next : width (kinds_from aggregates i) ≡ width_of (kind_at aggregates i) + width (kinds_from aggregates (i + 1)) = ap width (kinds_next aggregates i low) in
    omega (arith, next, is, h)

-- what is written after what is written
pub written_on : (x y z : ℕ) (ws vs us : List ℤ) → x ≤ y → y ≤ z → IsWritten x y ws vs → IsWritten y z vs us → IsWritten x z ws us
written_on x y z ws vs us low high h k = record {
  len = k.len ∙ h.len;
  below = λ j l. k.below j (omega (arith, l, low)) ∙ h.below j l;
  above = λ j l. k.above j l ∙ h.above j (omega (arith, l, high));
}

-- the number of one more aggregate is written
pub written_next : (x y w v : ℕ) (ws vs us : List ℤ) → x ≤ y → w ≡ v → IsWritten x y ws vs → IsWritten y (y + v) vs us → IsWritten x (y + w) ws us
written_next x y w v ws vs us low same h k = written_on x y (y + w) ws vs us low (omega arith) h (subst (λ n. IsWritten y (y + n) vs us) (sym same) k)

-- one word is written
pub set_written : (x : ℕ) (z : ℤ) (ws : List ℤ) → IsWritten x (x + 1) ws (set ws x z)
set_written x z ws = record {
  len = length-set ws x z;
  below = λ j l. get_or-set_other ws x j z (pos 0) (omega (arith, l));
  above = λ j l. get_or-set_other ws x j z (pos 0) (omega (arith, l));
}

-- a number that is not written again
pub number-below : (n : ℕ) (k : Kind) (ws vs : List ℤ) (x : ℕ) → AgreeBelow (x + width_of k) ws vs → number_at n k vs x ≡ number_at n k ws x
number-below n k ws vs x h = number-same n k ws vs x x (λ j low. h (x + j) (omega (arith, low)))

-- or not yet
pub number-above : (n : ℕ) (k : Kind) (ws vs : List ℤ) (x y z : ℕ) → IsWritten x y ws vs → y ≤ z → number_at n k vs z ≡ number_at n k ws z
number-above n k ws vs x y z h low = number-same n k ws vs z z (λ j l. h.above (z + j) (omega (arith, low)))

-- the numbers, where the first is written
pub numbers_next : (n : ℕ) (k : Kind) (ks : List Kind) (z : ℤ) (zs ws vs : List ℤ) (x : ℕ) → number_at n k ws x ≡ z → AgreeBelow (x + width_of k) ws vs
    → numbers_at n ks vs (x + width_of k) ≡ zs → numbers_at n (k ∷ ks) vs x ≡ z ∷ zs
numbers_next n k ks z zs ws vs x first agree rest = λ i. (number-below n k ws vs x agree ∙ first) i ∷ rest i

-- the first of numbers that so many records can come to, and the others
pub first_fits : (n : ℕ) (k : Kind) (ks : List Kind) (z : ℤ) (zs : List ℤ) → are_numbers n (k ∷ ks) (z ∷ zs) ≡ true → (is_number n k z ≡ true) × (are_numbers n ks zs ≡ true)
first_fits n k ks z zs h = both (is_number n k z) (are_numbers n ks zs) h

-- ---- one record more

pub count_more : (z : ℤ) → 1 ≤ count_of z → count_of z < 2 ^ 41 → count_of (to_z w64 (of_z w64 (z +ℤ pos 1))) ≡ count_of z + 1
count_more (pos n) some few =
    let fits : FitsSigned w64 (pos (n + 1)) = grind (arith, ints) in
    ap count_of (to_z-of_z w64 (pos (n + 1)) fits)
count_more (negsuc n) some few = absurd (omega (arith, some))
