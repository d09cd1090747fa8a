-- The greatest time of an entry is one of its times.
use Rattle.std.proofs.Common.{to_z-of_z, w64, arith, ◌≡◌, ℕ, ℤ, true, false, cond, List, [], ◌∷◌, Option, Some, subst}
use Rattle.std.specs.List.{All, fold}
use Rattle.std.specs.Int.{int_max}
use Rattle.std.specs.Prelude.{int_lt, FitsSigned}
use Rattle.std.proofs.lemmas.Int.{ints}
use Rattle.plan_model.specs.Windows.{IsTime}
use mir.Val.{to_z, of_z}
use Rattle.std.proofs.lemmas.List.Elements.{All-head, All-tail}
use Rattle.lane_kernels.specs.Compare.{greatest_of}
use Rattle.plain_data.specs.Record.{Record, at, column_of}
use Rattle.plain_data.specs.Times.{lowest}
use Rattle.stream_model.specs.Marks.{IsMark}

pub keeps : (P : ℤ → Type 0) (a b : ℤ) → P a → P b → P (int_max a b)
keeps P a b pa pb = elim (int_lt b a) as (λ t. P (cond t a b)) [ true ↦ pa | false ↦ pb ]

-- what holds of each time holds of the greatest
pub fold_within : (P : ℤ → Type 0) (time : ℕ) (rows : List Record) (a : ℤ) → P a → All (λ r. P (at time r)) rows → P (fold int_max a (column_of time rows))
fold_within P time [] a pa all = pa
fold_within P time (r ∷ rows) a pa all =
    fold_within P time rows (int_max a (at time r)) (keeps P a (at time r) pa (All-head (λ x. P (at time x)) r rows all)) (All-tail (λ x. P (at time x)) r rows all)

pub greatest_within : (P : ℤ → Type 0) (time : ℕ) (rows : List Record) (t : ℤ) → greatest_of (column_of time rows) ≡ Some t → All (λ r. P (at time r)) rows → P t
greatest_within P time [] t e all = absurd cc
greatest_within P time (r ∷ rows) t e all =
    let is : fold int_max (at time r) (column_of time rows) ≡ t = cc in
    subst P is (fold_within P time rows (at time r) (All-head (λ x. P (at time x)) r rows all) (All-tail (λ x. P (at time x)) r rows all))

pub lowest_mark : IsMark lowest
lowest_mark = (omega (arith, ints), omega (arith, ints))

pub time_mark : (t : ℤ) → IsTime t → IsMark t
time_mark t h = (grind (arith, ints), grind (arith, ints))

fits : (t : ℤ) → IsTime t → FitsSigned w64 t
fits t h = grind (arith, ints, h)

-- a time stands in 64 bits
pub time_kept : (t : ℤ) → IsTime t → IsTime (to_z w64 (of_z w64 t))
time_kept t h = rw (to_z-of_z {w = w64} {z = t} (fits t h)) h
