-- How far the partitions of sources were read, one after another.
use Rattle.std.proofs.Common.{◌≡◌, ℕ, ◌+◌, ◌-◌, ◌^◌, ◌≤◌, min, ℤ, ◌≤ℤ◌, List, [], ◌∷◌, length, map, sym, ap, ◌∙◌, take, arith, length-append}
use Rattle.std.specs.Int.{int_min}
use Rattle.std.specs.List.{fold, zip}
use Rattle.std.proofs.lemmas.Int.{ints}
use Rattle.plain_data.specs.Times.{highest}
use Rattle.savepoint_codec.specs.declared.savepoint.SavedPartition.{SavedPartition}
use Rattle.stream_model.specs.declared.entry.Marked.{Marked}
use Rattle.stream_model.specs.InputData.{records_in}
use Rattle.stream_model.specs.Watermarks.{partition_watermark, source_watermark, merged_watermark, records_before_in, records_before}
use Rattle.restore.specs.declared.partitions.Reached.{Reached}
use Rattle.restore.specs.Reached.{with_partition}
use Rattle.restore.specs.Saved.{cut_of}

-- ---- the least watermark

same : (a b : ℤ) → a ≤ℤ b → a ≡ int_min a b
same a b h = grind (arith, ints)

less : (a b c : ℤ) → a ≤ℤ c → int_min a b ≤ℤ c
less a b c h = grind (arith, ints)

regroup : (a b c : ℤ) → int_min (int_min a b) c ≡ int_min a (int_min b c)
regroup a b c = grind (arith, ints)

below : (a b : ℤ) → b ≤ℤ highest → int_min a b ≤ℤ highest
below a b h = grind (arith, ints)

top : highest ≤ℤ highest
top = grind (arith, ints)

merged_below : (ss : List (List (List Marked))) (cut : List (List ℕ)) → merged_watermark ss cut ≤ℤ highest
merged_below [] cut = top
merged_below (s ∷ ss) [] = top
merged_below (s ∷ ss) (c ∷ cs) = below (source_watermark s c) (merged_watermark ss cs) (merged_below ss cs)

from_top : (a : ℤ) → a ≤ℤ highest → int_min highest a ≡ a
from_top a h = grind (arith, ints)

-- ---- how many records

capped : (a n m : ℕ) → min (min (a + n) (2 ^ 64 - 1) + m) (2 ^ 64 - 1) ≡ min (a + (n + m)) (2 ^ 64 - 1)
capped a n m = omega arith

kept : (a : ℕ) → a ≤ 2 ^ 64 - 1 → a ≡ min (a + 0) (2 ^ 64 - 1)
kept a h = omega arith

-- ---- both

pub record IsReached (r : Reached) : Type 0 where
  pub watermark : r.watermark ≤ℤ highest
  pub records : r.records ≤ 2 ^ 64 - 1

-- so far, and past a least watermark and so many records
abbrev past : Reached → ℤ → ℕ → Reached
past r w n = record { watermark = int_min r.watermark w; records = min (r.records + n) (2 ^ 64 - 1) }

still : (r : Reached) → IsReached r → r ≡ past r highest 0
still r h = λ i. record { watermark = same r.watermark highest h.watermark i; records = kept r.records h.records i }

on : (r : Reached) (w : ℤ) (n : ℕ) → IsReached r → IsReached (past r w n)
on r w n h = record { watermark = less r.watermark w highest h.watermark; records = omega arith }

twice : (r : Reached) (w v : ℤ) (n m k : ℕ) → k ≡ n + m → past (past r w n) v m ≡ past r (int_min w v) k
twice r w v n m k e = λ i. record { watermark = regroup r.watermark w v i; records = (capped r.records n m ∙ ap (λ z. min (r.records + z) (2 ^ 64 - 1)) (sym e)) i }

in_source : (qs : List SavedPartition) (ps : List (List Marked)) (r : Reached) → IsReached r
    → fold with_partition r (zip qs ps) ≡ past r (source_watermark ps (map (λ q. q.offset) qs)) (length (records_before_in ps (map (λ q. q.offset) qs)))
in_source [] [] r h = still r h
in_source [] (p ∷ ps) r h = still r h
in_source (q ∷ qs) [] r h = still r h
in_source (q ∷ qs) (p ∷ ps) r h =
    let w = partition_watermark p q.offset in
    let here = records_in (take q.offset p) in
    let v = source_watermark ps (map (λ x. x.offset) qs) in
    let rest = records_before_in ps (map (λ x. x.offset) qs) in
    in_source qs ps (past r w (length here)) (on r w (length here) h) ∙ twice r w v (length here) (length rest) _ (length-append here rest)

in_sources : (qss : List (List SavedPartition)) (ss : List (List (List Marked))) (r : Reached) → IsReached r
    → fold (λ r x. fold with_partition r (zip x.0 x.1)) r (zip qss ss) ≡ past r (merged_watermark ss (cut_of qss)) (length (records_before ss (cut_of qss)))
in_sources [] [] r h = still r h
in_sources [] (s ∷ ss) r h = still r h
in_sources (qs ∷ qss) [] r h = still r h
in_sources (qs ∷ qss) (s ∷ ss) r h =
    let w = source_watermark s (map (λ q. q.offset) qs) in
    let here = records_before_in s (map (λ q. q.offset) qs) in
    let v = merged_watermark ss (cut_of qss) in
    let rest = records_before ss (cut_of qss) in
    ap (λ z. fold (λ r x. fold with_partition r (zip x.0 x.1)) z (zip qss ss)) (in_source qs s r h)
    ∙ in_sources qss ss (past r w (length here)) (on r w (length here) h) ∙ twice r w v (length here) (length rest) _ (length-append here rest)

-- of no partition so far
abbrev pub none : Reached
none = record { watermark = highest; records = 0 }

none_reached : IsReached none
none_reached = record { watermark = top; records = omega arith }

pub all_reached : (qss : List (List SavedPartition)) (ss : List (List (List Marked))) (r : Reached) → r ≡ fold (λ r x. fold with_partition r (zip x.0 x.1)) none (zip qss ss)
    → (r.watermark ≡ merged_watermark ss (cut_of qss)) × (r.records ≡ min (length (records_before ss (cut_of qss))) (2 ^ 64 - 1))
all_reached qss ss r e =
    let all = e ∙ in_sources qss ss none none_reached in
    (ap (λ z. z.watermark) all ∙ from_top _ (merged_below ss (cut_of qss)), ap (λ z. z.records) all ∙ (omega arith))
