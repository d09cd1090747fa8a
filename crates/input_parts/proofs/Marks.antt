-- The watermarks that a source makes: in range, and no higher of some records than of all.
use Rattle.std.proofs.Common.{ℕ, ℤ, ◌≤ℤ◌, ◌-ℤ◌, pos, List, [], ◌∷◌, Option, Some, None, arith}
use Rattle.std.specs.Int.{int_max}
use Rattle.std.specs.List.{All, fold}
use Rattle.std.proofs.lemmas.Int.{ints}
use Rattle.std.proofs.lemmas.List.Elements.{All-nil, All-cons, All-head, All-tail}
use Rattle.std.specs.Int.Signed.{≤ℤ_refl}
use Rattle.plain_data.specs.Record.{Record, at, column_of}
use Rattle.plain_data.specs.Times.{lowest}
use Rattle.plan_model.specs.PlanData.{IsBound}
use Rattle.plan_model.specs.Windows.{IsTime}
use Rattle.plan_model.specs.declared.spec.SourceSpec.{SourceSpec}
use Rattle.stream_model.specs.declared.entry.Entry.{Entry}
use Rattle.stream_model.specs.declared.entry.Entry.TheVariants.{Rows, Watermark}
use Rattle.stream_model.specs.declared.entry.Marked.{Marked}
use Rattle.stream_model.specs.Marks.{IsEntryOf, IsMark, IsMarked, mark_of}
use Rattle.stream_model.proofs.Facts.{fold_within, le_trans_z, le_max, max_second, lowest_mark, time_mark}

-- the entries of a source's partitions have the marks that it gives them
abbrev pub AreMarkedBy : ℕ → SourceSpec → List (List Marked) → Type 0
AreMarkedBy time s partitions = All (All (IsMarked s.bound time)) partitions

behind : (bound t : ℤ) → IsBound (Some bound) → IsTime t → IsMark (t -ℤ bound -ℤ pos 1)
behind bound t b h = let c = b.0 in let d = b.1 in (grind (arith, ints), grind (arith, ints))

pub mark_in_range : (columns time : ℕ) (bound : Option ℤ) (e : Entry) → IsBound bound → IsEntryOf columns time e → IsMark (mark_of bound time e)
mark_in_range columns time None (Rows batch) within h = lowest_mark
mark_in_range columns time None (Watermark t) within h = time_mark t h
mark_in_range columns time (Some bound) (Watermark t) within h = lowest_mark
mark_in_range columns time (Some bound) (Rows batch) within h = of_rows batch.rows h.1
  where
    of_rows : (rows : List Record) → All (λ r. IsTime (at time r)) rows → IsMark (mark_of (Some bound) time (Rows (record { width = batch.width; rows = rows })))
    of_rows [] all = lowest_mark
    of_rows (r ∷ rows) all =
        let t = fold int_max (at time r) (column_of time rows) in
        behind bound t within (fold_within IsTime time rows (at time r) (All-head (λ x. IsTime (at time x)) r rows all) (All-tail (λ x. IsTime (at time x)) r rows all))

-- no time is above the greatest
above_first : (time : ℕ) (rows : List Record) (a : ℤ) → a ≤ℤ fold int_max a (column_of time rows)
above_first time [] a = ≤ℤ_refl a
above_first time (r ∷ rows) a = le_trans_z a (int_max a (at time r)) _ (le_max a (at time r)) (above_first time rows (int_max a (at time r)))

above_all : (time : ℕ) (rows : List Record) (a : ℤ) → All (λ r. at time r ≤ℤ fold int_max a (column_of time rows)) rows
above_all time [] a = All-nil (λ r. at time r ≤ℤ a)
above_all time (r ∷ rows) a =
    let b = int_max a (at time r) in
    All-cons (λ x. at time x ≤ℤ fold int_max b (column_of time rows)) r rows
    (le_trans_z (at time r) b _ (max_second a (at time r)) (above_first time rows b)) (above_all time rows b)

lower : (bound t g : ℤ) → t ≤ℤ g → (t -ℤ bound -ℤ pos 1) ≤ℤ (g -ℤ bound -ℤ pos 1)
lower bound t g h = omega (arith, ints)

-- of some of the rows, one at least, a source makes no higher watermark than of all
pub mark_below : (bound : Option ℤ) (time width : ℕ) (k : Record) (ks rows : List Record) → ((P : Record → Type 0) → All P rows → All P (k ∷ ks))
    → mark_of bound time (Rows (record { width = width; rows = k ∷ ks })) ≤ℤ mark_of bound time (Rows (record { width = width; rows = rows }))
mark_below None time width k ks rows some = ≤ℤ_refl lowest
mark_below (Some bound) time width k ks [] some = absurd (All-head (λ r. ⊥) k ks (some (λ r. ⊥) (All-nil (λ r. ⊥))))
mark_below (Some bound) time width k ks (r ∷ rows) some =
    let g = fold int_max (at time r) (column_of time rows) in
    let all = some (λ x. at time x ≤ℤ g) (All-cons (λ x. at time x ≤ℤ g) r rows (above_first time rows (at time r)) (above_all time rows (at time r))) in
    let t = fold int_max (at time k) (column_of time ks) in
    lower bound t g (fold_within (λ x. x ≤ℤ g) time ks (at time k) (All-head (λ x. at time x ≤ℤ g) k ks all) (All-tail (λ x. at time x ≤ℤ g) k ks all))
