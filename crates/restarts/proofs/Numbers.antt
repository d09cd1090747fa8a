-- Records whose numbers have 64 bits come to what an entry of a savepoint may hold.
use Rattle.std.proofs.Common.{◌≡◌, ℕ, suc, ◌+◌, ◌*◌, ◌^◌, ◌≤◌, ℤ, pos, ◌+ℤ◌, Bool, true, false, cond, List, [], ◌∷◌, length, map, Some, refl, ap, subst, inl, inr, arith, FitsSigned, w64}
use Rattle.std.specs.Prelude.{unsigned_abs}
use Rattle.std.specs.List.{All}
use Rattle.std.specs.Option.{unwrap_or}
use Rattle.std.proofs.lemmas.Bool.{and_from, cases_lt, le-leb}
use Rattle.std.proofs.lemmas.Bool.Decides.{Decides-int_eq}
use Rattle.std.proofs.lemmas.Int.{ints}
use Rattle.std.proofs.lemmas.List.{get_or_past, length-map}
use Rattle.std.proofs.lemmas.List.Elements.{All-head, All-map, All-tail, All-weaker}
use Rattle.byte_fields.specs.Fields.{is_i64}
use Rattle.byte_fields.proofs.Exact.{is_i64_from}
use Rattle.plain_data.specs.Record.{Record, at, column_of}
use Rattle.plan_model.specs.declared.spec.Aggregate.{Aggregate}
use Rattle.plan_model.specs.declared.spec.Aggregate.TheVariants.{Count, Sum, Least, Greatest}
use Rattle.plan_model.specs.Aggregates.{Aggregated, aggregate_of, number_of, total, least, greatest}
use Rattle.aggregates.specs.Kinds.{kind_of, is_number, are_numbers}

abbrev pub IsWide : Record → Type 0
IsWide r = All (FitsSigned w64) r

abbrev IsI64 : ℤ → Type 0
IsI64 z = is_i64 z ≡ true

pub at_fits : (c : ℕ) (r : Record) → IsWide r → IsI64 (at c r)
at_fits c r h = elim (cases_lt c (length r)) [
  | inl l ↦ is_i64_from (at c r) (h c (pos 0) l)
  | inr l ↦ ap is_i64 (get_or_past r c (pos 0) l)
]

column_fits : (c : ℕ) (rs : List Record) → All IsWide rs → All IsI64 (column_of c rs)
column_fits c rs h = All-map IsI64 (at c) rs (All-weaker IsWide (λ r. IsI64 (at c r)) (at_fits c) rs h)

-- ---- a sum

abs_small : (z : ℤ) → IsI64 z → unsigned_abs z ≤ 2 ^ 63
abs_small z h = grind (arith, ints)

abs_added : (y z : ℤ) → unsigned_abs (y +ℤ z) ≤ unsigned_abs y + unsigned_abs z
abs_added y z = grind (arith, ints)

total_small : (zs : List ℤ) → All IsI64 zs → unsigned_abs (total zs) ≤ length zs * 2 ^ 63
total_small [] h = omega arith
total_small (z ∷ zs) h =
    let rest = total_small zs (All-tail IsI64 z zs h) in
    omega (arith, rest, abs_added z (total zs), abs_small z (All-head IsI64 z zs h))

-- ---- a least and a greatest

chosen : (b : Bool) (y z : ℤ) → IsI64 y → IsI64 z → IsI64 (cond b y z)
chosen true y z h k = h
chosen false y z h k = k

least_fits : (z : ℤ) (zs : List ℤ) → IsI64 z → All IsI64 zs → IsI64 (least z zs)
least_fits z [] h k = h
least_fits z (y ∷ zs) h k = chosen _ (least y zs) z (least_fits y zs (All-head IsI64 y zs k) (All-tail IsI64 y zs k)) h

greatest_fits : (z : ℤ) (zs : List ℤ) → IsI64 z → All IsI64 zs → IsI64 (greatest z zs)
greatest_fits z [] h k = h
greatest_fits z (y ∷ zs) h k = chosen _ z (greatest y zs) h (greatest_fits y zs (All-head IsI64 y zs k) (All-tail IsI64 y zs k))

-- ---- each number

number_fits : (a : Aggregate) (r : Record) (rs : List Record) → IsWide r → All IsWide rs → is_number (length (r ∷ rs)) (kind_of a) (number_of a r rs) ≡ true
number_fits Count r rs h k = (Decides-int_eq (pos (length (r ∷ rs))) (pos (length (r ∷ rs)))).1 refl
number_fits (Sum c) r rs h k =
    let rest = total_small (column_of c rs) (column_fits c rs k) in
    le-leb (unsigned_abs (at c r +ℤ total (column_of c rs))) (suc (length rs) * 2 ^ 63) (omega (arith, rest, length-map rs (at c), abs_added (at c r) (total (column_of c rs)), abs_small (at c r) (at_fits c r h)))
number_fits (Least c) r rs h k = least_fits (at c r) (column_of c rs) (at_fits c r h) (column_fits c rs k)
number_fits (Greatest c) r rs h k = greatest_fits (at c r) (column_of c rs) (at_fits c r h) (column_fits c rs k)

all_fit : (ks : List Aggregate) (r : Record) (rs : List Record) → IsWide r → All IsWide rs → are_numbers (length (r ∷ rs)) (map kind_of ks) (map (λ a. number_of a r rs) ks) ≡ true
all_fit [] r rs h k = refl
all_fit (a ∷ ks) r rs h k = and_from _ _ (number_fits a r rs h k) (all_fit ks r rs h k)

-- what records come to
pub numbers_of : (ks : List Aggregate) (rs : List Record) (a : Aggregated) → aggregate_of ks rs ≡ Some a → All IsWide rs → (1 ≤ a.count) × (are_numbers a.count (map kind_of ks) a.numbers ≡ true)
numbers_of ks [] a e h = absurd cc
numbers_of ks (r ∷ rs) a e h =
    let P : Aggregated → Type 0 = λ b. (1 ≤ b.count) × (are_numbers b.count (map kind_of ks) b.numbers ≡ true) in
    let is : record { count = length (r ∷ rs); numbers = map (λ k. number_of k r rs) ks } ≡ a = ap (λ o. unwrap_or o a) e in
    subst P is (omega arith, all_fit ks r rs (All-head IsWide r rs h) (All-tail IsWide r rs h))
