-- Rows of a batch that go to places, and what they come to there.
use Rattle.std.specs.Prelude.{◌≡◌, ℕ, ◌+◌, ◌*◌, ◌^◌, ◌<◌, ◌≤◌, ◌==◌, List, [], ◌∷◌, length, map, slice_index_or, if◌then◌else◌, ℤ}
use Rattle.plan_model.specs.declared.spec.Aggregate.{Aggregate}
use Rattle.plan_model.specs.Aggregates.{Aggregated, number_of}
use Rattle.aggregates.specs.declared.kind.Kind.{Kind}
use Rattle.aggregates.specs.Kinds.{IsAcc, kind_of, merge_all, merge_by}
use Rattle.place_words.specs.declared.words.PlacedRow.{PlacedRow}
use Rattle.place_words.specs.Words.{acc_in, count_of, stride, word}

-- how many rows go to the place
abbrev pub rows_to : ℕ → List PlacedRow → ℕ
rows_to x [] = 0
rows_to x (r ∷ rs) = if r.at == x then 1 + rows_to x rs else rows_to x rs

-- the records that go to the place, in order
abbrev pub records_to : ℕ → List (List ℤ) → List PlacedRow → List (List ℤ)
records_to x records [] = []
records_to x records (r ∷ rs) = if r.at == x then slice_index_or records r.row [] ∷ records_to x records rs else records_to x records rs

-- what one record more comes to, and what records do, one after the other
abbrev pub with_record : List Aggregate → Aggregated → List ℤ → Aggregated
with_record aggregates total r =
    record { count = total.count + 1; numbers = merge_all (map kind_of aggregates) total.numbers (map (λ a. number_of a r []) aggregates) }

abbrev pub with_records : List Aggregate → Aggregated → List (List ℤ) → Aggregated
with_records aggregates total [] = total
with_records aggregates total (r ∷ rs) = with_records aggregates (with_record aggregates total r) rs

-- places stand one after the other from the first word on, and one begins at x
pub record IsInPlaces (kinds : List Kind) (words : List ℤ) (x : ℕ) : Type 0 where
  pub place : ℕ
  pub begins : x ≡ place * stride kinds
  pub inside : x + stride kinds ≤ length words

-- the same of one where something stands
pub record IsPlaceOf (kinds : List Kind) (words : List ℤ) (x : ℕ) : Type 0 where
  pub within : IsInPlaces kinds words x
  pub sound : IsAcc (acc_in kinds words x)

-- no more records stand in the place than are counted, with those that go to it
abbrev pub AreFew : List ℤ → List PlacedRow → ℕ → Type 0
AreFew words rows x = count_of (word words x) + rows_to x rows ≤ 2 ^ 41

-- a number, with those of the rows to the place brought in, in order
abbrev pub merged_to : Kind → (PlacedRow → ℤ) → ℕ → List PlacedRow → ℤ → ℤ
merged_to k f x [] z = z
merged_to k f x (r ∷ rs) z = if r.at == x then merged_to k f x rs (merge_by k z (f r)) else merged_to k f x rs z

-- so many words from x on and from y on are the same, or none is in both
pub record AreApart (width x y : ℕ) : Type 0 where
  pub before : x < y → x + width ≤ y
  pub after : y < x → y + width ≤ x
