-- The search for the first record that comes too late, and what it means where there is none.
use Rattle.std.proofs.Common.{◌≡◌, ℕ, zero, suc, ◌+◌, ◌-◌, ◌<◌, ◌≤◌, ℤ, ◌<ℤ◌, Bool, true, false, cond, length, get_or, take, List, [], ◌∷◌, inl, inr, Option, Some, None, option_map, refl, sym, ap, ◌∙◌, arith}
use Rattle.std.proofs.lemmas.Bool.{ne_eqb, or_parts, cases_eq}
use Rattle.std.proofs.lemmas.Int.{ints}
use Rattle.std.proofs.lemmas.List.Sums.{fold_more}
use Rattle.std.proofs.lemmas.List.Elements.{All-cons}
use Rattle.std.proofs.lemmas.Option.{slice_get_read, slice_get-get_or}
use Rattle.std.specs.Prelude.{int_le}
use Rattle.std.specs.Int.{int_max}
use Rattle.std.specs.List.{All, AllByRecursion, list_any, find, fold, range_with_len}
use Rattle.std.specs.Option.{option_or}
use Rattle.plain_data.specs.Record.{Record, at}
use Rattle.stream_model.specs.declared.entry.Marked.{Marked}
use Rattle.stream_model.specs.InputData.{records_of_entry}
use Rattle.stream_model.specs.Watermarks.{watermark_of_entry, partition_watermark, IsOrderlyPartition, IsOrderly}
use Rattle.plain_data.specs.Times.{lowest}
use Rattle.stream_model.specs.Laws.{WatermarkGoesOn}
use Rattle.stream_model.specs.Late.{is_late_time, is_late_at, first_late_entry, first_at, first_late}

-- the watermark of the first n entries, before the end
abbrev pub watermark_before : List Marked → ℕ → ℤ
watermark_before entries n = fold (λ w e. int_max w (watermark_of_entry e)) lowest (take n entries)

pub watermark_at : (entries : List Marked) (n : ℕ) → n < length entries → partition_watermark entries n ≡ watermark_before entries n
watermark_at entries n h = rw (ne_eqb n (length entries) (λ e. omega arith)) refl

-- each entry raises the watermark to its own at least
pub watermark_more : (entries : List Marked) (n : ℕ) (e : Marked) (w : ℤ) → n < length entries → e ≡ get_or entries n e → w ≡ watermark_before entries n
    → int_max w (watermark_of_entry e) ≡ watermark_before entries (n + 1)
watermark_more entries n e w h is before = rw (fold_more (λ x y. int_max x (watermark_of_entry y)) lowest entries n e h, ← is, before) refl

pub watermark_goes_on : WatermarkGoesOn
watermark_goes_on p n d short =
    let step = λ (w : ℤ) (e : Marked). int_max w (watermark_of_entry e) in
    watermark_at p (n + 1) short ∙ fold_more step lowest p n d (omega arith) ∙ ap (λ w. step w (get_or p n d)) (sym (watermark_at p n (omega arith)))

-- entry n is late where it has a record with at most the watermark of the entries before it
pub late_here : (time : ℕ) (entries : List Marked) (n : ℕ) (e : Marked) (w : ℤ) → n < length entries → e ≡ get_or entries n e → w ≡ watermark_before entries n
    → is_late_at time entries n ≡ list_any (λ r. is_late_time w (at time r)) (records_of_entry e)
late_here time entries n e w h is so_far =
    rw (watermark_at entries n h, slice_get_read entries (length entries) n e refl h is, so_far) refl

-- ---- the search in one partition

pub goes_past : (test : ℕ → Bool) (n len : ℕ) → n < len → test n ≡ false → find test (range_with_len n (len - n)) ≡ find test (range_with_len (n + 1) (len - (n + 1)))
goes_past test n len h is =
    let e : len - n ≡ suc (len - (n + 1)) = omega arith in
    rw (e, is) refl

pub finds : (test : ℕ → Bool) (n len : ℕ) → n < len → test n ≡ true → find test (range_with_len n (len - n)) ≡ Some n
finds test n len h is =
    let e : len - n ≡ suc (len - (n + 1)) = omega arith in
    rw (e, is) refl

-- ---- the search in the partitions of a source, and in the sources

abbrev pub moved : {Y : Type 0} → ℕ → Option (ℕ × Y) → Option (ℕ × Y)
moved i o = option_map (λ p. (i + p.0, p.1)) o

-- ---- where there is none

no_choice : (b : Bool) (x : ℕ) (o : Option ℕ) → cond b (Some x) o ≡ None → (b ≡ false) × (o ≡ None)
no_choice true x o h = absurd cc
no_choice false x o h = (refl, h)

none_in_range : (test : ℕ → Bool) (from len n : ℕ) → find test (range_with_len from len) ≡ None → from ≤ n → n < from + len → test n ≡ false
none_in_range test from zero n h low high = absurd (omega arith)
none_in_range test from (suc len) n h low high =
    let parts = no_choice (test from) from (find test (range_with_len (from + 1) len)) h in
    elim (cases_eq n from) as (λ _. test n ≡ false) [ inl e ↦ rw e parts.0 | inr ne ↦ none_in_range test (from + 1) len n parts.1 (omega arith) (omega arith) ]

pub above : (a b : ℤ) → int_le a b ≡ false → b <ℤ a
above a b h = grind (arith, ints)

all_above : (time : ℕ) (w : ℤ) (rs : List Record) → list_any (λ r. is_late_time w (at time r)) rs ≡ false → All (λ r. w <ℤ at time r) rs
all_above time w [] h = λ k d lt. absurd (omega arith)
all_above time w (r ∷ rs) h =
    let parts = or_parts (is_late_time w (at time r)) (list_any (λ x. is_late_time w (at time x)) rs) h in
    All-cons (λ x. w <ℤ at time x) r rs (above (at time r) w parts.0) (all_above time w rs parts.1)

orderly_partition : (time : ℕ) (entries : List Marked) → first_late_entry time entries ≡ None → IsOrderlyPartition time entries
orderly_partition time entries h = λ n d lt.
    let test : is_late_at time entries n ≡ false = none_in_range (is_late_at time entries) 0 (length entries) n h (omega arith) (omega arith) in
    all_above time (partition_watermark entries n) (records_of_entry (get_or entries n d)) (rw (slice_get-get_or entries n d lt) at test)

both_none : {X Y Z : Type 0} (a : Option X) (b : Option Y) (f : X → Z) (g : Y → Z) → option_or (option_map f a) (option_map g b) ≡ None → (a ≡ None) × (b ≡ None)
both_none None None f g h = (refl, refl)
both_none None (Some y) f g h = absurd cc
both_none (Some x) b f g h = absurd cc

all_none : {X Y : Type 0} (f : X → Option Y) (P : X → Type 0) → ((x : X) → f x ≡ None → P x) → (xs : List X) → first_at f xs ≡ None → AllByRecursion P xs
all_none f P each [] h = tt
all_none f P each (x ∷ xs) h =
    let parts = both_none (f x) (first_at f xs) (λ y. (0, y)) (λ p. (suc p.0, p.1)) h in
    (each x parts.0, all_none f P each xs parts.1)

pub orderly : (time : ℕ) (sources : List (List (List Marked))) → first_late time sources ≡ None → IsOrderly time sources
orderly time sources h =
    all_none (first_at (first_late_entry time)) (AllByRecursion (IsOrderlyPartition time))
    (λ ps none. all_none (first_late_entry time) (IsOrderlyPartition time) (orderly_partition time) ps none) sources h
