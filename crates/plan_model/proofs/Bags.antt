-- What records come to does not depend on their order.
use Rattle.std.proofs.Common.{◌≡◌, ℕ, ℤ, pos, zero-add, ◌+◌, Bool, true, false, cond, ◌||◌, nat_lt, List, [], ◌∷◌, map, length, refl, sym, ap, ◌∙◌, arith, Some}
use Rattle.std.specs.Int.{int_min, int_max}
use Rattle.std.specs.Int.RustNames.{int_le}
use Rattle.std.specs.List.{sum_by, count_by, filter, list_any}
use Rattle.std.proofs.lemmas.List.Sums.{sum_by-cons}
use Rattle.std.proofs.lemmas.Int.{ints}
use Rattle.std.proofs.lemmas.Bool.{lt-ltb}
use borrow.Author.Differences.{up, down}
use Rattle.plain_data.specs.Record.{Record, at, column_of}
use Rattle.plan_model.specs.declared.spec.Aggregate.{Aggregate}
use Rattle.plan_model.specs.declared.spec.Aggregate.TheVariants.{Count, Sum, Least, Greatest}
use Rattle.plan_model.specs.Bag.{IsSameBag}
use Rattle.plan_model.specs.Aggregates.{total, least, greatest, number_of, aggregate_of}

pub sum_by-filter : {X : Type 0} (f : X → ℕ) (p : X → Bool) (xs : List X) → sum_by f (filter p xs) ≡ sum_by (λ x. cond (p x) (f x) 0) xs
sum_by-filter f p [] = refl
sum_by-filter {X} f p (x ∷ xs) =
    (elim (p x) as (λ b. sum_by f (cond b (x ∷ filter p xs) (filter p xs)) ≡ cond b (f x) 0 + sum_by (λ y. cond (p y) (f y) 0) xs) [
      | true ↦ sum_by-cons f x (filter p xs) ∙ ap (λ n. f x + n) (sum_by-filter f p xs)
      | false ↦ sum_by-filter f p xs ∙ omega arith
    ]) ∙ sym (sum_by-cons (λ y. cond (p y) (f y) 0) x xs)

pub IsSameBag-filter : {X : Type 0} (p : X → Bool) (xs ys : List X) → IsSameBag xs ys → IsSameBag (filter p xs) (filter p ys)
IsSameBag-filter p xs ys h f = sum_by-filter f p xs ∙ h (λ x. cond (p x) (f x) 0) ∙ sym (sum_by-filter f p ys)

pub length-sum_by : {X : Type 0} (xs : List X) → sum_by (λ _. 1) xs ≡ length xs
length-sum_by [] = refl
length-sum_by (x ∷ xs) = omega (arith, sum_by-cons (λ _. 1) x xs, length-sum_by xs)

-- a sum of integers by two sums of naturals
total-sums : {X : Type 0} (g : X → ℤ) (xs : List X) → up (total (map g xs)) + sum_by (λ x. down (g x)) xs ≡ down (total (map g xs)) + sum_by (λ x. up (g x)) xs
total-sums g [] = omega (arith, ints)
total-sums g (x ∷ xs) = omega (arith, ints, sum_by-cons (λ y. down (g y)) x xs, sum_by-cons (λ y. up (g y)) x xs, total-sums g xs)

same_z : (a b : ℤ) (m n : ℕ) → up a + m ≡ down a + n → up b + m ≡ down b + n → a ≡ b
same_z a b m n h k = omega (arith, ints)

total-same : {X : Type 0} (g : X → ℤ) (xs ys : List X) → IsSameBag xs ys → total (map g xs) ≡ total (map g ys)
total-same g xs ys h = same_z _ _ (sum_by (λ x. down (g x)) xs) (sum_by (λ x. up (g x)) xs) (total-sums g xs)
    (rw (h (λ x. down (g x)), h (λ x. up (g x))) (total-sums g ys))

-- a list has an element that passes where the count is not zero
list_any-count : {X : Type 0} (p : X → Bool) (xs : List X) → list_any p xs ≡ nat_lt 0 (count_by p xs)
list_any-count p [] = refl
list_any-count p (x ∷ xs) =
    (elim (p x) as (λ b. (b || list_any p xs) ≡ nat_lt 0 (cond b 1 0 + count_by p xs)) [
      | true ↦ sym (lt-ltb 0 (1 + count_by p xs) (omega arith))
      | false ↦ list_any-count p xs ∙ ap (nat_lt 0) (sym (zero-add (count_by p xs)))
    ]) ∙ ap (nat_lt 0) (sym (sum_by-cons (λ y. cond (p y) 1 0) x xs))

-- the tests that the least and the greatest pass
min_test : (a b z : ℤ) → int_le (int_min a b) z ≡ (int_le a z || int_le b z)
min_test a b z = grind (arith, ints)

max_test : (a b z : ℤ) → int_le z (int_max a b) ≡ (int_le z a || int_le z b)
max_test a b z = grind (arith, ints)

same_from_below : (a b : ℤ) → ((z : ℤ) → int_le a z ≡ int_le b z) → a ≡ b
same_from_below a b h = grind (arith, ints, h a, h b)

same_from_above : (a b : ℤ) → ((z : ℤ) → int_le z a ≡ int_le z b) → a ≡ b
same_from_above a b h = grind (arith, ints, h a, h b)

least_test : (x : ℤ) (xs : List ℤ) (z : ℤ) → int_le (least x xs) z ≡ list_any (λ y. int_le y z) (x ∷ xs)
least_test x [] z = grind arith
least_test x (y ∷ ys) z = min_test x (least y ys) z ∙ ap (λ b. int_le x z || b) (least_test y ys z)

greatest_test : (x : ℤ) (xs : List ℤ) (z : ℤ) → int_le z (greatest x xs) ≡ list_any (λ y. int_le z y) (x ∷ xs)
greatest_test x [] z = grind arith
greatest_test x (y ∷ ys) z = max_test x (greatest y ys) z ∙ ap (λ b. int_le z x || b) (greatest_test y ys z)

list_any-map' : {X Y : Type 0} (p : Y → Bool) (g : X → Y) (xs : List X) → list_any p (map g xs) ≡ list_any (λ x. p (g x)) xs
list_any-map' p g [] = refl
list_any-map' p g (x ∷ xs) = ap (λ b. p (g x) || b) (list_any-map' p g xs)

any_same : {X : Type 0} (p : ℤ → Bool) (g : X → ℤ) (xs ys : List X) → IsSameBag xs ys → list_any p (map g xs) ≡ list_any p (map g ys)
any_same p g xs ys h =
    list_any-map' p g xs ∙ list_any-count (λ x. p (g x)) xs ∙ ap (nat_lt 0) (h (λ x. cond (p (g x)) 1 0))
    ∙ sym (list_any-map' p g ys ∙ list_any-count (λ x. p (g x)) ys)

pub number_of-same : (a : Aggregate) (r : Record) (rs : List Record) (s : Record) (ss : List Record)
    → IsSameBag (r ∷ rs) (s ∷ ss) → number_of a r rs ≡ number_of a s ss
number_of-same Count r rs s ss h = ap pos (sym (length-sum_by (r ∷ rs)) ∙ h (λ _. 1) ∙ length-sum_by (s ∷ ss))
number_of-same (Sum c) r rs s ss h = total-same (at c) (r ∷ rs) (s ∷ ss) h
number_of-same (Least c) r rs s ss h = same_from_below _ _ (λ z.
    least_test (at c r) (column_of c rs) z ∙ any_same (λ y. int_le y z) (at c) (r ∷ rs) (s ∷ ss) h ∙ sym (least_test (at c s) (column_of c ss) z))
number_of-same (Greatest c) r rs s ss h = same_from_above _ _ (λ z.
    greatest_test (at c r) (column_of c rs) z ∙ any_same (λ y. int_le z y) (at c) (r ∷ rs) (s ∷ ss) h ∙ sym (greatest_test (at c s) (column_of c ss) z))

numbers-same : (ks : List Aggregate) (r : Record) (rs : List Record) (s : Record) (ss : List Record)
    → IsSameBag (r ∷ rs) (s ∷ ss) → map (λ a. number_of a r rs) ks ≡ map (λ a. number_of a s ss) ks
numbers-same [] r rs s ss h = refl
numbers-same (k ∷ ks) r rs s ss h = λ i. number_of-same k r rs s ss h i ∷ numbers-same ks r rs s ss h i

length-same : {X : Type 0} (xs ys : List X) → IsSameBag xs ys → length xs ≡ length ys
length-same xs ys h = sym (length-sum_by xs) ∙ h (λ _. 1) ∙ length-sum_by ys

-- what records come to does not depend on their order
pub aggregate_of-same : (ks : List Aggregate) (xs ys : List Record) → IsSameBag xs ys → aggregate_of ks xs ≡ aggregate_of ks ys
aggregate_of-same ks [] [] h = refl
aggregate_of-same ks [] (y ∷ ys) h = absurd (let e : 0 ≡ length (y ∷ ys) = length-same {X = Record} [] (y ∷ ys) h in omega arith)
aggregate_of-same ks (x ∷ xs) [] h = absurd (let e : length (x ∷ xs) ≡ 0 = length-same {X = Record} (x ∷ xs) [] h in omega arith)
aggregate_of-same ks (x ∷ xs) (y ∷ ys) h =
    let count : length (x ∷ xs) ≡ length (y ∷ ys) = length-same (x ∷ xs) (y ∷ ys) h in
    λ i. Some (record { count = count i; numbers = numbers-same ks x xs y ys h i })
