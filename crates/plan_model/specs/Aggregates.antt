-- What the records of a window and a key come to.
use Rattle.std.specs.Prelude.{ℕ, ℤ, pos, ◌+◌, ◌+ℤ◌, List, [], ◌∷◌, map, length, Option, Some, None}
use Rattle.std.specs.Int.{int_min, int_max}
use Rattle.plain_data.specs.Record.{Record, at, column_of}
use Rattle.plan_model.specs.declared.spec.Aggregate.{Aggregate}
use Rattle.plan_model.specs.declared.spec.Aggregate.TheVariants.{Count, Sum, Least, Greatest}

-- the numbers added up
abbrev pub total : List ℤ → ℤ
total [] = pos 0
total (x ∷ xs) = x +ℤ total xs

-- the least and the greatest of x and xs
abbrev pub least : ℤ → List ℤ → ℤ
least x [] = x
least x (y ∷ ys) = int_min x (least y ys)

abbrev pub greatest : ℤ → List ℤ → ℤ
greatest x [] = x
greatest x (y ∷ ys) = int_max x (greatest y ys)

-- the number that an aggregate makes of a record and more records
abbrev pub number_of : Aggregate → Record → List Record → ℤ
number_of Count r rs = pos (length (r ∷ rs))
number_of (Sum c) r rs = total (column_of c (r ∷ rs))
number_of (Least c) r rs = least (at c r) (column_of c rs)
number_of (Greatest c) r rs = greatest (at c r) (column_of c rs)

-- how many records, and a number for each aggregate
pub record Aggregated : Type 0 where
  pub count : ℕ
  pub numbers : List ℤ

-- what records come to, where there are any
abbrev pub aggregate_of : List Aggregate → List Record → Option Aggregated
aggregate_of aggregates [] = None
aggregate_of aggregates (r ∷ rs) = Some (record { count = length (r ∷ rs); numbers = map (λ a. number_of a r rs) aggregates })

-- two numbers of one aggregate, of disjoint records, brought together
abbrev pub merge_number : Aggregate → ℤ → ℤ → ℤ
merge_number Count a b = a +ℤ b
merge_number (Sum c) a b = a +ℤ b
merge_number (Least c) a b = int_min a b
merge_number (Greatest c) a b = int_max a b

abbrev pub merge_numbers : List Aggregate → List ℤ → List ℤ → List ℤ
merge_numbers (k ∷ ks) (x ∷ xs) (y ∷ ys) = merge_number k x y ∷ merge_numbers ks xs ys
merge_numbers ks xs ys = []

-- what two parts of the records come to together
abbrev pub merge : List Aggregate → Option Aggregated → Option Aggregated → Option Aggregated
merge ks None b = b
merge ks (Some a) None = Some a
merge ks (Some a) (Some b) = Some (record { count = a.count + b.count; numbers = merge_numbers ks a.numbers b.numbers })
