-- Kinds of aggregates, and the numbers that they can have.
use Rattle.std.specs.Prelude.{◌≡◌, ℕ, ℤ, pos, ◌+ℤ◌, ◌-◌, ◌*◌, ◌^◌, ◌≤◌, nat_le, unsigned_abs, Bool, true, false, ◌&&◌, List, [], ◌∷◌, ◌++◌, length, replicate}
use Rattle.std.specs.Int.{int_min, int_max}
use Rattle.std.specs.Ordering.{int_eq}
use Rattle.byte_fields.specs.Fields.{is_i64}
use Rattle.plan_model.specs.declared.spec.Aggregate.{Aggregate}
use Rattle.plan_model.specs.declared.spec.Aggregate.TheVariants as aggregate
use Rattle.plan_model.specs.Aggregates.{Aggregated}
use Rattle.plan_model.specs.declared.limits.TheConstants.{MOST_AGGREGATES, MOST_RECORDS}
use Rattle.aggregates.specs.declared.kind.Kind.{Kind}
use Rattle.aggregates.specs.declared.kind.Kind.TheVariants.{Count, Sum, Least, Greatest}

abbrev pub kind_of : Aggregate → Kind
kind_of aggregate.Count = Count
kind_of (aggregate.Sum c) = Sum
kind_of (aggregate.Least c) = Least
kind_of (aggregate.Greatest c) = Greatest

-- two numbers of one kind, of disjoint records, brought together
abbrev pub merge_by : Kind → ℤ → ℤ → ℤ
merge_by Count a b = a +ℤ b
merge_by Sum a b = a +ℤ b
merge_by Least a b = int_min a b
merge_by Greatest a b = int_max a b

abbrev pub merge_all : List Kind → List ℤ → List ℤ → List ℤ
merge_all (k ∷ ks) (x ∷ xs) (y ∷ ys) = merge_by k x y ∷ merge_all ks xs ys
merge_all ks xs ys = []

-- a number that so many records can come to: the count itself, a sum of at most 2^63 for each, or one of the records'
-- numbers
abbrev pub is_number : ℕ → Kind → ℤ → Bool
is_number count Count z = int_eq z (pos count)
is_number count Sum z = nat_le (unsigned_abs z) (count * 2 ^ 63)
is_number count Least z = is_i64 z
is_number count Greatest z = is_i64 z

-- one number for each kind, each of them such a number
abbrev pub are_numbers : ℕ → List Kind → List ℤ → Bool
are_numbers count [] [] = true
are_numbers count (k ∷ ks) (z ∷ zs) = is_number count k z && are_numbers count ks zs
are_numbers count ks zs = false

-- an accumulator as contracts see it: the kinds of its aggregates, and what the records come to
pub record AccData : Type 0 where
  pub kinds : List Kind
  pub total : Aggregated

-- 1 to 8 kinds, a number for each, and 1 to 2^41 records
pub record IsAcc (a : AccData) : Type 0 where
  pub some : 1 ≤ length a.kinds
  pub few : length a.kinds ≤ MOST_AGGREGATES
  pub counted : 1 ≤ a.total.count
  pub bounded : a.total.count ≤ 2 ^ 41
  pub numbers : are_numbers a.total.count a.kinds a.total.numbers ≡ true

-- an entry of a savepoint: 1 to 8 kinds with a number for each that so many records can come to, of 1 to 2^40 records
abbrev pub is_entry : List Kind → ℕ → List ℤ → Bool
is_entry kinds count numbers =
    (nat_le 1 (length kinds) && nat_le (length kinds) MOST_AGGREGATES) && ((nat_le 1 count && nat_le count MOST_RECORDS) && are_numbers count kinds numbers)

-- eight places, of which the last are the filler
abbrev pub padded : {X : Type 0} → X → List X → List X
padded filler xs = xs ++ replicate (MOST_AGGREGATES - length xs) filler
