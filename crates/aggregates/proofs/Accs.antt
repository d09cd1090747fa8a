-- Accumulators made and merged: their fields, and the numbers that so many records can come to.
use Rattle.std.proofs.Common.{◌≡◌, ℕ, suc, ℤ, pos, ◌+ℤ◌, ◌+◌, ◌-◌, ◌^◌, ◌≤◌, Bool, true, false, ◌&&◌, List, [], ◌∷◌, ◌++◌, map, take, drop, length, replicate, refl, sym, ap, subst, ◌∙◌, ◌≢◌, arith}
use Rattle.std.specs.Prelude.{unsigned_abs}
use Rattle.std.specs.Int.{int_min, int_max}
use Rattle.std.specs.List.{All}
use Rattle.std.proofs.lemmas.Int.{ints, clamps}
use Rattle.std.proofs.lemmas.List.{length-map, drop-replicate}
use Rattle.std.proofs.lemmas.List.Elements.{All-nil, All-cons, All-append, All-replicate, All-head, All-tail}
use Rattle.std.proofs.Math.Seq.{take-append_seam, drop-append_seam}
use Rattle.plain_data.specs.Record.{Record}
use Rattle.plan_model.specs.declared.spec.Aggregate.{Aggregate}
use Rattle.plan_model.specs.declared.spec.Aggregate.TheVariants as aggregate
use Rattle.plan_model.specs.Aggregates.{number_of, merge_numbers}
use Rattle.aggregates.specs.declared.kind.Kind.{Kind}
use Rattle.aggregates.specs.declared.kind.Kind.TheVariants.{Count, Sum, Least, Greatest}
use Rattle.aggregates.specs.declared.acc.Acc.TheInside.{Inside}
use Rattle.byte_fields.specs.Fields.{is_i64}
use Rattle.aggregates.specs.Kinds.{AccData, IsAcc, kind_of, merge_by, merge_all, is_number, are_numbers, padded}
use Rattle.aggregates.specs.Inside.{acc_view, IsInside}
use Rattle.aggregates.specs.Fields.{length-front}
use Rattle.byte_fields.proofs.Exact.{both, and_true}

-- ---- fields

take_padded : {X : Type 0} (d : X) (xs : List X) (n : ℕ) → length xs ≡ n → take n (padded d xs) ≡ xs
take_padded d xs n is = ap (λ k. take k (padded d xs)) (sym is) ∙ take-append_seam xs (replicate (8 - length xs) d)

pub drop_padded : {X : Type 0} (d : X) (xs : List X) (n : ℕ) → length xs ≡ n → drop n (padded d xs) ≡ replicate (8 - n) d
drop_padded d xs n is = ap (λ k. drop k (padded d xs)) (sym is) ∙ drop-append_seam xs (replicate (8 - length xs) d) ∙ ap (λ k. replicate (8 - k) d) is

-- a front over the fillers
pub is_padded : {X : Type 0} (d : X) (front : List X) (n : ℕ) → length front ≡ n → front ++ drop n (replicate 8 d) ≡ padded d front
is_padded d front n is = ap (λ l. front ++ l) (drop-replicate n 8 d ∙ ap (λ k. replicate (8 - k) d) (sym is))

abbrev pub value_of : ℕ → List Kind → List ℤ → AccData
value_of count ks zs = record { kinds = ks; total = record { count = count; numbers = zs } }

abbrev pub fields_of : ℕ → ℕ → List Kind → List ℤ → Inside
fields_of count n ks zs = record { count = count; width = n; kinds = ks; numbers = zs }

view_of : (count n : ℕ) (ks : List Kind) (zs : List ℤ) → length ks ≡ n → length zs ≡ n → acc_view (fields_of count n (padded Count ks) (padded (pos 0) zs)) ≡ value_of count ks zs
view_of count n ks zs h k = λ i. value_of count (take_padded Count ks n h i) (take_padded (pos 0) zs n k i)

made : (count n : ℕ) (ks : List Kind) (zs : List ℤ) → length ks ≡ n → length zs ≡ n → n ≤ 8 → IsAcc (value_of count ks zs)
    → IsInside (fields_of count n (padded Count ks) (padded (pos 0) zs))
made count n ks zs h k le sound = record {
  sound = subst IsAcc (sym (view_of count n ks zs h k)) sound;
  width = le;
  kinds = ap (padded Count) (sym (take_padded Count ks n h));
  numbers = ap (padded (pos 0)) (sym (take_padded (pos 0) zs n k));
}

-- the fields of a value, where the two arrays are known to be these
pub is_inside : (count n : ℕ) (ks all_ks : List Kind) (zs all_zs : List ℤ) → all_ks ≡ padded Count ks → all_zs ≡ padded (pos 0) zs → length ks ≡ n → length zs ≡ n → n ≤ 8
    → IsAcc (value_of count ks zs) → IsInside (fields_of count n all_ks all_zs)
is_inside count n ks all_ks zs all_zs e f h k le sound = subst IsInside (sym (λ i. fields_of count n (e i) (f i))) (made count n ks zs h k le sound)

-- ---- numbers

pub length-numbers : (count : ℕ) (ks : List Kind) (zs : List ℤ) → are_numbers count ks zs ≡ true → length zs ≡ length ks
length-numbers count [] [] h = refl
length-numbers count [] (z ∷ zs) h = absurd cc
length-numbers count (k ∷ ks) [] h = absurd cc
length-numbers count (k ∷ ks) (z ∷ zs) h = ap suc (length-numbers count ks zs (both (is_number count k z) (are_numbers count ks zs) h).1)

small_number : (count : ℕ) (k : Kind) (z : ℤ) → count ≤ 2 ^ 41 → is_number count k z ≡ true → unsigned_abs z ≤ 2 ^ 125
small_number count Count z few h = grind (arith, ints)
small_number count Sum z few h = grind (arith, ints)
small_number count Least z few h = grind (arith, ints)
small_number count Greatest z few h = grind (arith, ints)

small_numbers : (count : ℕ) (ks : List Kind) (zs : List ℤ) → count ≤ 2 ^ 41 → are_numbers count ks zs ≡ true → All (λ z. unsigned_abs z ≤ 2 ^ 125) zs
small_numbers count [] [] few h = All-nil (λ z. unsigned_abs z ≤ 2 ^ 125)
small_numbers count [] (z ∷ zs) few h = absurd cc
small_numbers count (k ∷ ks) [] few h = absurd cc
small_numbers count (k ∷ ks) (z ∷ zs) few h =
    let parts = both (is_number count k z) (are_numbers count ks zs) h in
    All-cons (λ y. unsigned_abs y ≤ 2 ^ 125) z zs (small_number count k z few parts.0) (small_numbers count ks zs few parts.1)

pub small_inside : (a : Inside) → IsInside a → All (λ z. unsigned_abs z ≤ 2 ^ 125) a.numbers
small_inside a h =
    subst (All (λ z. unsigned_abs z ≤ 2 ^ 125)) (sym h.numbers)
    (All-append (λ z. unsigned_abs z ≤ 2 ^ 125) (take a.width a.numbers) (replicate (8 - length (take a.width a.numbers)) (pos 0))
    (small_numbers a.count (take a.width a.kinds) (take a.width a.numbers) h.sound.bounded h.sound.numbers)
    (All-replicate (λ z. unsigned_abs z ≤ 2 ^ 125) (8 - length (take a.width a.numbers)) (pos 0) (omega (arith, ints))))

merged_number : (m n : ℕ) (k : Kind) (x y : ℤ) → is_number m k x ≡ true → is_number n k y ≡ true → is_number (m + n) k (merge_by k x y) ≡ true
merged_number m n Count x y h k = grind (arith, ints)
merged_number m n Sum x y h k = grind (arith, ints)
merged_number m n Least x y h k = grind (arith, ints, clamps)
merged_number m n Greatest x y h k = grind (arith, ints, clamps)

pub merged_numbers : (m n : ℕ) (ks : List Kind) (xs ys : List ℤ) → are_numbers m ks xs ≡ true → are_numbers n ks ys ≡ true → are_numbers (m + n) ks (merge_all ks xs ys) ≡ true
merged_numbers m n [] [] [] h k = refl
merged_numbers m n [] [] (y ∷ ys) h k = refl
merged_numbers m n [] (x ∷ xs) ys h k = absurd cc
merged_numbers m n (kind ∷ ks) [] ys h k = absurd cc
merged_numbers m n (kind ∷ ks) (x ∷ xs) [] h k = absurd cc
merged_numbers m n (kind ∷ ks) (x ∷ xs) (y ∷ ys) h k =
    let a = both (is_number m kind x) (are_numbers m ks xs) h in
    let b = both (is_number n kind y) (are_numbers n ks ys) k in
    and_true _ _ (merged_number m n kind x y a.0 b.0) (merged_numbers m n ks xs ys a.1 b.1)

-- merging by aggregates is merging by their kinds
pub merge_numbers-kinds : (aggregates : List Aggregate) (xs ys : List ℤ) → merge_numbers aggregates xs ys ≡ merge_all (map kind_of aggregates) xs ys
merge_numbers-kinds [] xs ys = refl
merge_numbers-kinds (a ∷ aggregates) [] ys = refl
merge_numbers-kinds (a ∷ aggregates) (x ∷ xs) [] = refl
merge_numbers-kinds (aggregate.Count ∷ aggregates) (x ∷ xs) (y ∷ ys) = ap (λ l. (x +ℤ y) ∷ l) (merge_numbers-kinds aggregates xs ys)
merge_numbers-kinds (aggregate.Sum c ∷ aggregates) (x ∷ xs) (y ∷ ys) = ap (λ l. (x +ℤ y) ∷ l) (merge_numbers-kinds aggregates xs ys)
merge_numbers-kinds (aggregate.Least c ∷ aggregates) (x ∷ xs) (y ∷ ys) = ap (λ l. int_min x y ∷ l) (merge_numbers-kinds aggregates xs ys)
merge_numbers-kinds (aggregate.Greatest c ∷ aggregates) (x ∷ xs) (y ∷ ys) = ap (λ l. int_max x y ∷ l) (merge_numbers-kinds aggregates xs ys)

pub one_number : (a : Aggregate) (r : Record) → is_i64 (number_of a r []) ≡ true → is_number 1 (kind_of a) (number_of a r []) ≡ true
one_number aggregate.Count r h = refl
one_number (aggregate.Sum c) r h = grind (arith, ints)
one_number (aggregate.Least c) r h = h
one_number (aggregate.Greatest c) r h = h

pub one_numbers : (aggregates : List Aggregate) (r : Record) → All (λ a. is_i64 (number_of a r []) ≡ true) aggregates → are_numbers 1 (map kind_of aggregates) (map (λ a. number_of a r []) aggregates) ≡ true
one_numbers [] r h = refl
one_numbers (a ∷ aggregates) r h =
    and_true _ _ (one_number a r (All-head (λ b. is_i64 (number_of b r []) ≡ true) a aggregates h)) (one_numbers aggregates r (All-tail (λ b. is_i64 (number_of b r []) ≡ true) a aggregates h))

-- ---- one record

-- what one record's fields stand for is an accumulator
sound_one : (aggregates : List Aggregate) (r : Record) → 1 ≤ length aggregates → length aggregates ≤ 8 → All (λ a. is_i64 (number_of a r []) ≡ true) aggregates
    → IsAcc (value_of 1 (map kind_of aggregates) (map (λ a. number_of a r []) aggregates))
sound_one aggregates r some few fit = record {
  some = rw (length-map aggregates kind_of) some;
  few = rw (length-map aggregates kind_of) few;
  counted = omega arith;
  bounded = omega arith;
  numbers = one_numbers aggregates r fit;
}

-- the fields of one record, written over the fillers
pub one_inside : (aggregates : List Aggregate) (r : Record) (ks : List Kind) (zs : List ℤ) → 1 ≤ length aggregates → length aggregates ≤ 8
    → All (λ a. is_i64 (number_of a r []) ≡ true) aggregates
    → ks ≡ map kind_of aggregates ++ drop (length aggregates) (replicate 8 Count)
    → zs ≡ map (λ a. number_of a r []) aggregates ++ drop (length aggregates) (replicate 8 (pos 0))
    → IsInside (fields_of 1 (length aggregates) ks zs)
one_inside aggregates r ks zs some few fit kinds numbers =
    let f = λ (a : Aggregate). number_of a r [] in
    is_inside 1 (length aggregates) (map kind_of aggregates) ks (map f aggregates) zs
    (kinds ∙ is_padded Count (map kind_of aggregates) (length aggregates) (length-map aggregates kind_of))
    (numbers ∙ is_padded (pos 0) (map f aggregates) (length aggregates) (length-map aggregates f))
    (length-map aggregates kind_of) (length-map aggregates f) few (sound_one aggregates r some few fit)

-- the fields of one record
abbrev pub one_of : List Aggregate → Record → Inside
one_of aggregates r = fields_of 1 (length aggregates) (padded Count (map kind_of aggregates)) (padded (pos 0) (map (λ a. number_of a r []) aggregates))

pub one_is_inside : (aggregates : List Aggregate) (r : Record) → 1 ≤ length aggregates → length aggregates ≤ 8
    → All (λ a. is_i64 (number_of a r []) ≡ true) aggregates → IsInside (one_of aggregates r)
one_is_inside aggregates r some few fit =
    made 1 (length aggregates) (map kind_of aggregates) (map (λ a. number_of a r []) aggregates)
    (length-map aggregates kind_of) (length-map aggregates (λ a. number_of a r [])) few (sound_one aggregates r some few fit)

pub one_has_kinds : (aggregates : List Aggregate) (r : Record) → take (one_of aggregates r).width (one_of aggregates r).kinds ≡ map kind_of aggregates
one_has_kinds aggregates r = take_padded Count (map kind_of aggregates) (length aggregates) (length-map aggregates kind_of)

pub one_has_numbers : (aggregates : List Aggregate) (r : Record) → take (one_of aggregates r).width (one_of aggregates r).numbers ≡ map (λ a. number_of a r []) aggregates
one_has_numbers aggregates r = take_padded (pos 0) (map (λ a. number_of a r []) aggregates) (length aggregates) (length-map aggregates (λ a. number_of a r []))

-- ---- merging

-- the numbers of b brought into those of a
abbrev pub merged_of : Inside → Inside → List ℤ
merged_of a b = merge_all (take a.width a.kinds) (take a.width a.numbers) (take b.width b.numbers)

-- the array that this leaves
abbrev pub IsMergedInto : Inside → Inside → List ℤ → Type 0
IsMergedInto a b zs = zs
    ≡ merge_all (take a.width a.kinds) (take (length (take a.width a.kinds)) a.numbers) (take (length (take a.width a.kinds)) b.numbers) ++ drop (length (take a.width a.kinds)) a.numbers

-- the numbers of one record, brought in one by one, leave what merging leaves
pub added_into : (a : Inside) (aggregates : List Aggregate) (r : Record) (zs : List ℤ) → take a.width a.kinds ≡ map kind_of aggregates
    → zs ≡ merge_all (map kind_of aggregates) (take (length aggregates) a.numbers) (map (λ x. number_of x r []) aggregates) ++ drop (length aggregates) a.numbers
    → IsMergedInto a (one_of aggregates r) zs
added_into a aggregates r zs same is =
    let f = λ (x : Aggregate). number_of x r [] in
    let n : length aggregates ≡ length (take a.width a.kinds) = sym (ap (length {A = Kind}) same ∙ length-map aggregates kind_of) in
    let numbers : map f aggregates ≡ take (length (take a.width a.kinds)) (padded (pos 0) (map f aggregates)) =
    sym (take_padded (pos 0) (map f aggregates) (length (take a.width a.kinds)) (length-map aggregates f ∙ n)) in
    is ∙ (λ i. merge_all (sym same i) (take (n i) a.numbers) (numbers i) ++ drop (n i) a.numbers)

pub record Merges (a b : Inside) (zs : List ℤ) : Type 0 where
  pub padded_so : zs ≡ padded (pos 0) (merged_of a b)
  pub fit : are_numbers (a.count + b.count) (take a.width a.kinds) (merged_of a b) ≡ true
  pub length_kinds : length (take a.width a.kinds) ≡ a.width
  pub length_merged : length (merged_of a b) ≡ a.width

merges : (a b : Inside) (zs : List ℤ) → IsInside a → IsInside b → take a.width a.kinds ≡ take b.width b.kinds → IsMergedInto a b zs → Merges a b zs
merges a b zs h k same is =
    let ks : List Kind = take a.width a.kinds in
    let n_a : length ks ≡ a.width = length-front Count a.kinds a.width h.width h.kinds in
    let n_b : length (take b.width b.kinds) ≡ b.width = length-front Count b.kinds b.width k.width k.kinds in
    let widths : a.width ≡ b.width = sym n_a ∙ ap (length {A = Kind}) same ∙ n_b in
    let fit : are_numbers (a.count + b.count) ks (merged_of a b) ≡ true =
    merged_numbers a.count b.count ks (take a.width a.numbers) (take b.width b.numbers) h.sound.numbers
    (subst (λ x. are_numbers b.count x (take b.width b.numbers) ≡ true) (sym same) k.sound.numbers) in
    let n_merged : length (merged_of a b) ≡ a.width = length-numbers (a.count + b.count) ks (merged_of a b) fit ∙ n_a in
    let rest : drop (length ks) a.numbers ≡ replicate (8 - a.width) (pos 0) =
    ap (λ n. drop n a.numbers) n_a ∙ ap (drop a.width) h.numbers ∙ drop_padded (pos 0) (take a.width a.numbers) a.width (length-numbers a.count ks (take a.width a.numbers) h.sound.numbers ∙ n_a) in
    record {
      padded_so = is
          ∙ (λ i. merge_all ks (take (n_a i) a.numbers) (take ((n_a ∙ widths) i) b.numbers) ++ rest i)
          ∙ ap (λ n. merged_of a b ++ replicate (8 - n) (pos 0)) (sym n_merged);
      fit = fit;
      length_kinds = n_a;
      length_merged = n_merged;
    }

pub merged_inside : (a b : Inside) (zs : List ℤ) → IsInside a → IsInside b → take a.width a.kinds ≡ take b.width b.kinds → a.count + b.count ≤ 2 ^ 41
    → IsMergedInto a b zs → IsInside (fields_of (a.count + b.count) a.width a.kinds zs)
merged_inside a b zs h k same few is =
    let m : Merges a b zs = merges a b zs h k same is in
    let sound : IsAcc (value_of (a.count + b.count) (take a.width a.kinds) (merged_of a b)) = record {
      some = h.sound.some;
      few = h.sound.few;
      counted = let one = h.sound.counted in omega arith;
      bounded = few;
      numbers = m.fit;
    } in
    is_inside (a.count + b.count) a.width (take a.width a.kinds) a.kinds (merged_of a b) zs h.kinds m.padded_so m.length_kinds m.length_merged h.width sound

pub merged_view : (a b : Inside) (zs : List ℤ) → IsInside a → IsInside b → take a.width a.kinds ≡ take b.width b.kinds
    → IsMergedInto a b zs → take a.width zs ≡ merged_of a b
merged_view a b zs h k same is =
    let m : Merges a b zs = merges a b zs h k same is in
    ap (take a.width) m.padded_so ∙ take_padded (pos 0) (merged_of a b) a.width m.length_merged

-- ---- numbers told one after the other

pub other_lengths : (count : ℕ) (ks : List Kind) (zs : List ℤ) → length ks ≢ length zs → are_numbers count ks zs ≡ false
other_lengths count [] [] h = absurd (h refl)
other_lengths count [] (z ∷ zs) h = refl
other_lengths count (k ∷ ks) [] h = refl
other_lengths count (k ∷ ks) (z ∷ zs) h = ap (λ b. is_number count k z && b) (other_lengths count ks zs (λ e. h (ap suc e))) ∙ and_false (is_number count k z)
  where
    and_false : (b : Bool) → (b && false) ≡ false
    and_false true = refl
    and_false false = refl
