-- What records come to does not depend on how they are put together.
use Rattle.std.proofs.Common.{◌≡◌, ℤ, pos, ◌+ℤ◌, ◌+◌, List, [], ◌∷◌, ◌++◌, map, length, refl, sym, ap, ◌∙◌, arith, length-append, Option, Some, None}
use Rattle.std.specs.Int.{int_min, int_max}
use Rattle.std.proofs.lemmas.List.{map-append, append-nil}
use Rattle.std.proofs.lemmas.Int.{ints, clamps}
use Rattle.plain_data.specs.Record.{Record, at, column_of}
use Rattle.plan_model.specs.declared.spec.Aggregate.{Aggregate}
use Rattle.plan_model.specs.declared.spec.Aggregate.TheVariants.{Count, Sum, Least, Greatest}
use Rattle.plan_model.specs.Aggregates.{Aggregated, total, least, greatest, number_of, aggregate_of, merge_number, merge_numbers, merge}

add_assoc_z : (a b c : ℤ) → a +ℤ (b +ℤ c) ≡ (a +ℤ b) +ℤ c
add_assoc_z a b c = omega (arith, ints)

min_assoc_z : (a b c : ℤ) → int_min a (int_min b c) ≡ int_min (int_min a b) c
min_assoc_z a b c = omega (arith, ints, clamps)

max_assoc_z : (a b c : ℤ) → int_max a (int_max b c) ≡ int_max (int_max a b) c
max_assoc_z a b c = omega (arith, ints, clamps)

pub total-append : (xs ys : List ℤ) → total (xs ++ ys) ≡ total xs +ℤ total ys
total-append [] ys = omega (arith, ints)
total-append (x ∷ xs) ys = ap (λ t. x +ℤ t) (total-append xs ys) ∙ add_assoc_z x (total xs) (total ys)

pub least-append : (x : ℤ) (xs : List ℤ) (y : ℤ) (ys : List ℤ) → least x (xs ++ y ∷ ys) ≡ int_min (least x xs) (least y ys)
least-append x [] y ys = refl
least-append x (z ∷ zs) y ys = ap (λ t. int_min x t) (least-append z zs y ys) ∙ min_assoc_z x (least z zs) (least y ys)

pub greatest-append : (x : ℤ) (xs : List ℤ) (y : ℤ) (ys : List ℤ) → greatest x (xs ++ y ∷ ys) ≡ int_max (greatest x xs) (greatest y ys)
greatest-append x [] y ys = refl
greatest-append x (z ∷ zs) y ys = ap (λ t. int_max x t) (greatest-append z zs y ys) ∙ max_assoc_z x (greatest z zs) (greatest y ys)

pub number_of-append : (a : Aggregate) (r : Record) (rs : List Record) (s : Record) (ss : List Record)
    → number_of a r (rs ++ s ∷ ss) ≡ merge_number a (number_of a r rs) (number_of a s ss)
number_of-append Count r rs s ss = ap pos (omega (arith, length-append rs (s ∷ ss)))
number_of-append (Sum c) r rs s ss =
    ap total (map-append (at c) (r ∷ rs) (s ∷ ss)) ∙ total-append (column_of c (r ∷ rs)) (column_of c (s ∷ ss))
number_of-append (Least c) r rs s ss =
    ap (least (at c r)) (map-append (at c) rs (s ∷ ss)) ∙ least-append (at c r) (column_of c rs) (at c s) (column_of c ss)
number_of-append (Greatest c) r rs s ss =
    ap (greatest (at c r)) (map-append (at c) rs (s ∷ ss)) ∙ greatest-append (at c r) (column_of c rs) (at c s) (column_of c ss)

numbers-append : (ks : List Aggregate) (r : Record) (rs : List Record) (s : Record) (ss : List Record)
    → map (λ a. number_of a r (rs ++ s ∷ ss)) ks ≡ merge_numbers ks (map (λ a. number_of a r rs) ks) (map (λ a. number_of a s ss) ks)
numbers-append [] r rs s ss = refl
numbers-append (k ∷ ks) r rs s ss = λ i. number_of-append k r rs s ss i ∷ numbers-append ks r rs s ss i

-- what the parts come to, brought together
pub aggregate_of-append : (ks : List Aggregate) (xs ys : List Record) → aggregate_of ks (xs ++ ys) ≡ merge ks (aggregate_of ks xs) (aggregate_of ks ys)
aggregate_of-append ks [] ys = refl
aggregate_of-append ks (x ∷ xs) [] = ap (λ l. aggregate_of ks (x ∷ l)) (append-nil xs)
aggregate_of-append ks (x ∷ xs) (y ∷ ys) =
    let count : length (x ∷ (xs ++ y ∷ ys)) ≡ length (x ∷ xs) + length (y ∷ ys) = omega (arith, length-append xs (y ∷ ys)) in
    λ i. Some (record { count = count i; numbers = numbers-append ks x xs y ys i })

-- ---- merging is associative

merge_number_assoc : (k : Aggregate) (x y z : ℤ) → merge_number k (merge_number k x y) z ≡ merge_number k x (merge_number k y z)
merge_number_assoc Count x y z = sym (add_assoc_z x y z)
merge_number_assoc (Sum c) x y z = sym (add_assoc_z x y z)
merge_number_assoc (Least c) x y z = sym (min_assoc_z x y z)
merge_number_assoc (Greatest c) x y z = sym (max_assoc_z x y z)

merge_numbers_assoc : (ks : List Aggregate) (xs ys zs : List ℤ) → merge_numbers ks (merge_numbers ks xs ys) zs ≡ merge_numbers ks xs (merge_numbers ks ys zs)
merge_numbers_assoc [] xs ys zs = refl
merge_numbers_assoc (k ∷ ks) [] ys zs = refl
merge_numbers_assoc (k ∷ ks) (x ∷ xs) [] zs = refl
merge_numbers_assoc (k ∷ ks) (x ∷ xs) (y ∷ ys) [] = refl
merge_numbers_assoc (k ∷ ks) (x ∷ xs) (y ∷ ys) (z ∷ zs) = λ i. merge_number_assoc k x y z i ∷ merge_numbers_assoc ks xs ys zs i

-- what three parts come to together, either two first
pub merge_assoc : (ks : List Aggregate) (a b c : Option Aggregated) → merge ks (merge ks a b) c ≡ merge ks a (merge ks b c)
merge_assoc ks None b c = refl
merge_assoc ks (Some a) None c = refl
merge_assoc ks (Some a) (Some b) None = refl
merge_assoc ks (Some a) (Some b) (Some c) =
    let count : (a.count + b.count) + c.count ≡ a.count + (b.count + c.count) = omega arith in
    λ i. Some (record { count = count i; numbers = merge_numbers_assoc ks a.numbers b.numbers c.numbers i })
