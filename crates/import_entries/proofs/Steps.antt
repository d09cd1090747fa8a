-- What one more row changes.
use Rattle.std.proofs.Common.{◌≡◌, ℕ, ℤ, ◌+◌, ◌-◌, ◌*◌, ◌/◌, ◌%◌, ◌<◌, ◌≤◌, ◌⊎◌, true, false, List, [], ◌∷◌, ◌++◌, length, take, Option, Some, arith, refl, sym, ap, ◌∙◌, inl, inr, length-append}
use Rattle.std.proofs.lemmas.Nat.{div-add-mod', mod-mul-add, mod_below}
use Rattle.std.proofs.lemmas.List.{take-append-le}
use Rattle.std.proofs.Math.Seq.{take-append_seam}
use Rattle.std.proofs.lemmas.Bool.Decides.{nat_tests}
use Rattle.lane_kernels.specs.Compare.{greatest_of}
use Rattle.plan_model.specs.Windows.{is_time}
use Rattle.import_entries.specs.declared.place.Place.TheVariants.{Joins, Begins}
use Rattle.import_entries.specs.declared.progress.Progress.{Progress}
use Rattle.import_entries.specs.declared.rule.Bound.{Bound}
use Rattle.import_entries.specs.Entries.{open_rows, closed_times, settled_times, begins, progress_of, place_fault, place_said, late_said, mark_said, standing_said}

mod_next : (m n : ℕ) → m % n + 1 < n → (m + 1) % n ≡ m % n + 1
mod_next m n h =
    let e : m + 1 ≡ m / n * n + (m % n + 1) = omega (arith, div-add-mod' m n) in
    ap (λ (k : ℕ). k % n) e ∙ mod-mul-add (m / n) n (m % n + 1) h

mod_wraps : (m n : ℕ) → 0 < n → m % n + 1 ≡ n → (m + 1) % n ≡ 0
mod_wraps m n some h =
    let e : m + 1 ≡ (m / n + 1) * n + 0 = omega (arith, div-add-mod' m n) in
    ap (λ (k : ℕ). k % n) e ∙ mod-mul-add (m / n + 1) n 0 some

-- an entry has some rows once there are any
open_none : (n : ℕ) (times : List ℤ) → length times ≡ 0 → open_rows n times ≡ 0
unfolding open_rows
open_none n times h = grind (arith, nat_tests)

open_some : (n : ℕ) (times : List ℤ) → 0 < length times → open_rows n times ≡ (length times - 1) % n + 1
unfolding open_rows
open_some n times h = grind (arith, nat_tests)

longer : (times : List ℤ) (t : ℤ) → length (times ++ t ∷ []) ≡ length times + 1
longer times t = omega (arith, length-append times (t ∷ []))

open_more : (n : ℕ) (times : List ℤ) (t : ℤ) → open_rows n (times ++ t ∷ []) ≡ length times % n + 1
open_more n times t =
    let l = longer times t in
    let e : length (times ++ t ∷ []) - 1 ≡ length times = omega arith in
    open_some n (times ++ t ∷ []) (omega arith) ∙ ap (λ (k : ℕ). k % n + 1) e

length_cases : (times : List ℤ) → (length times ≡ 0) ⊎ (0 < length times)
length_cases [] = inl refl
length_cases (t ∷ times) = inr (omega arith)

pub open_joined : (n : ℕ) (times : List ℤ) (t : ℤ) → 0 < open_rows n times → open_rows n times < n → open_rows n (times ++ t ∷ []) ≡ open_rows n times + 1
open_joined n times t some room = elim (length_cases times) [
  | inl none ↦ absurd (omega (arith, open_none n times none))
  | inr more ↦
      let o = open_some n times more in
      let e : length times ≡ (length times - 1) + 1 = omega arith in
      let next = mod_next (length times - 1) n (omega arith) in
      omega (arith, open_more n times t, ap (λ (k : ℕ). k % n) e)
]

pub open_begun : (n : ℕ) (times : List ℤ) (t : ℤ) → 0 < n → (open_rows n times ≡ 0) ⊎ (n ≤ open_rows n times) → open_rows n (times ++ t ∷ []) ≡ 1
open_begun n times t some full = elim (length_cases times) [
  | inl none ↦
      let zero_left = mod-mul-add 0 n 0 some in
      omega (arith, open_more n times t, ap (λ (k : ℕ). k % n) none, zero_left)
  | inr more ↦
      let o = open_some n times more in
      let low = mod_below (length times - 1) n some in
      let e : length times ≡ (length times - 1) + 1 = omega arith in
      let next = mod_wraps (length times - 1) n some (omega arith) in
      omega (arith, open_more n times t, ap (λ (k : ℕ). k % n) e)
]

pub closed_joined : (n : ℕ) (times : List ℤ) (t : ℤ) → 0 < open_rows n times → open_rows n times < n → closed_times n (times ++ t ∷ []) ≡ closed_times n times
unfolding closed_times
closed_joined n times t some room =
    let l = longer times t in
    let o = open_joined n times t some room in
    let e : length (times ++ t ∷ []) - open_rows n (times ++ t ∷ []) ≡ length times - open_rows n times = omega arith in
    ap (λ (k : ℕ). take k (times ++ t ∷ [])) e ∙ take-append-le (length times - open_rows n times) times (t ∷ []) (omega arith)

pub closed_begun : (n : ℕ) (times : List ℤ) (t : ℤ) → 0 < n → (open_rows n times ≡ 0) ⊎ (n ≤ open_rows n times) → closed_times n (times ++ t ∷ []) ≡ times
unfolding closed_times
closed_begun n times t some full =
    let l = longer times t in
    let o = open_begun n times t some full in
    let e : length (times ++ t ∷ []) - open_rows n (times ++ t ∷ []) ≡ length times = omega arith in
    ap (λ (k : ℕ). take k (times ++ t ∷ [])) e ∙ take-append_seam times (t ∷ [])

not_begun : (n : ℕ) (times : List ℤ) → 0 < open_rows n times → open_rows n times < n → begins n times ≡ false
unfolding begins
not_begun n times some room = grind (arith, nat_tests)

begun : (n : ℕ) (times : List ℤ) → (open_rows n times ≡ 0) ⊎ (open_rows n times ≡ n) → begins n times ≡ true
unfolding begins
begun n times full = grind (arith, nat_tests)

open_at_most : (n : ℕ) (times : List ℤ) → 0 < n → open_rows n times ≤ n
open_at_most n times some = elim (length_cases times) [
  | inl none ↦ omega (arith, open_none n times none)
  | inr more ↦ omega (arith, open_some n times more, mod_below (length times - 1) n some)
]

full_or_none : (n : ℕ) (times : List ℤ) → 0 < n → (open_rows n times ≡ 0) ⊎ (n ≤ open_rows n times) → (open_rows n times ≡ 0) ⊎ (open_rows n times ≡ n)
full_or_none n times some (inl none) = inl none
full_or_none n times some (inr full) = inr (omega (arith, open_at_most n times some))

pub rows_of : (n : ℕ) (times : List ℤ) (old : Progress) → old ≡ progress_of n times → (old.rows ≡ open_rows n times) × (old.latest ≡ greatest_of times) × (old.closed ≡ greatest_of (closed_times n times))
unfolding progress_of
rows_of n times old e = (ap (λ (p : Progress). p.rows) e, ap (λ (p : Progress). p.latest) e, ap (λ (p : Progress). p.closed) e)

abbrev pub made : ℕ → Option ℤ → Option ℤ → Progress
made rows latest closed = record { rows = rows; latest = latest; closed = closed }

made_same : (a b : ℕ) (c d e f : Option ℤ) → a ≡ b → c ≡ d → e ≡ f → made a c e ≡ made b d f
made_same a b c d e f p q r = cc

moved : (n : ℕ) (times : List ℤ) (old : Progress) → old.rows ≡ open_rows n times → (old.rows ≡ 0) ⊎ (n ≤ old.rows) → (open_rows n times ≡ 0) ⊎ (n ≤ open_rows n times)
moved n times old r (inl none) = inl (omega (arith, r))
moved n times old r (inr full) = inr (omega (arith, r))

-- why a row that joins the last entry goes nowhere, if it does not
pub fault_joined : (n : ℕ) (marks : Option Bound) (times : List ℤ) (time : ℤ) (old : Progress) → old ≡ progress_of n times → 0 < old.rows → old.rows < n → is_time time ≡ true → place_fault n marks times time ≡ late_said (mark_said marks old.closed) time
unfolding place_fault settled_times
fault_joined n marks times time old e some room ok =
    let r = rows_of n times old e in
    rw (ok, not_begun n times (omega (arith, r.0)) (omega (arith, r.0)), r.2) refl

pub place_joined : (n : ℕ) (marks : Option Bound) (times : List ℤ) (old : Progress) → old ≡ progress_of n times → 0 < old.rows → old.rows < n → Joins ≡ place_said n marks times
unfolding place_said
place_joined n marks times old e some room =
    let r = rows_of n times old e in
    rw (not_begun n times (omega (arith, r.0)) (omega (arith, r.0))) refl

pub rows_joined : (n : ℕ) (times : List ℤ) (time latest : ℤ) (old : Progress) → old ≡ progress_of n times → 0 < old.rows → old.rows < n → Some latest ≡ greatest_of (times ++ time ∷ []) → made (old.rows + 1) (Some latest) old.closed ≡ progress_of n (times ++ time ∷ [])
unfolding progress_of
rows_joined n times time latest old e some room g =
    let r = rows_of n times old e in
    let low : 0 < open_rows n times = omega (arith, r.0) in
    let high : open_rows n times < n = omega (arith, r.0) in
    made_same (old.rows + 1) (open_rows n (times ++ time ∷ [])) (Some latest) (greatest_of (times ++ time ∷ [])) old.closed (greatest_of (closed_times n (times ++ time ∷ [])))
    (omega (arith, r.0, open_joined n times time low high)) g (r.2 ∙ ap greatest_of (sym (closed_joined n times time low high)))

pub fault_begun : (n : ℕ) (marks : Option Bound) (times : List ℤ) (time : ℤ) (old : Progress) → old ≡ progress_of n times → 0 < n → (old.rows ≡ 0) ⊎ (n ≤ old.rows) → is_time time ≡ true → place_fault n marks times time ≡ late_said (mark_said marks old.latest) time
unfolding place_fault settled_times
fault_begun n marks times time old e some full ok =
    let r = rows_of n times old e in
    rw (ok, begun n times (full_or_none n times some (moved n times old r.0 full)), r.1) refl

pub place_begun : (n : ℕ) (marks : Option Bound) (times : List ℤ) (old : Progress) → old ≡ progress_of n times → 0 < n → (old.rows ≡ 0) ⊎ (n ≤ old.rows) → Begins (standing_said marks (mark_said marks old.latest)) ≡ place_said n marks times
unfolding place_said
place_begun n marks times old e some full =
    let r = rows_of n times old e in
    rw (begun n times (full_or_none n times some (moved n times old r.0 full)), r.1) refl

pub rows_begun : (n : ℕ) (times : List ℤ) (time latest : ℤ) (old : Progress) → old ≡ progress_of n times → 0 < n → (old.rows ≡ 0) ⊎ (n ≤ old.rows) → Some latest ≡ greatest_of (times ++ time ∷ []) → made 1 (Some latest) old.latest ≡ progress_of n (times ++ time ∷ [])
unfolding progress_of
rows_begun n times time latest old e some full g =
    let r = rows_of n times old e in
    let was = moved n times old r.0 full in
    made_same 1 (open_rows n (times ++ time ∷ [])) (Some latest) (greatest_of (times ++ time ∷ [])) old.latest (greatest_of (closed_times n (times ++ time ∷ [])))
    (sym (open_begun n times time some was)) g (r.1 ∙ ap greatest_of (sym (closed_begun n times time some was)))
