-- No record is late where others are left out.
use Rattle.std.proofs.Common.{◌≡◌, ℕ, zero, suc, ◌<◌, ℤ, ◌≤ℤ◌, ◌<ℤ◌, Bool, List, [], ◌∷◌, ◌++◌, map, length, Option, get_or, take, refl, sym, subst, arith}
use Rattle.std.specs.Int.{int_max}
use Rattle.std.specs.List.{All, AllByRecursion, AllZip, filter, fold}
use Rattle.std.proofs.lemmas.Bool.{ne_eqb}
use Rattle.std.proofs.lemmas.Int.{ints, clamps}
use Rattle.std.proofs.lemmas.List.Elements.{All-head, All-tail, All-filter, All-weaker}
use Rattle.plain_data.specs.Record.{Record, at}
use Rattle.plain_data.specs.Times.{lowest}
use Rattle.plan_model.specs.declared.spec.SourceSpec.{SourceSpec}
use Rattle.stream_model.specs.declared.entry.Entry.{Entry}
use Rattle.stream_model.specs.declared.entry.Entry.TheVariants.{Rows, Watermark}
use Rattle.stream_model.specs.declared.entry.Marked.{Marked}
use Rattle.stream_model.specs.InputData.{records_of_entry}
use Rattle.stream_model.specs.Marks.{IsMarked, mark_of, rows_in}
use Rattle.stream_model.specs.Watermarks.{watermark_of_entry, partition_watermark, IsOrderlyPartition, IsOrderly}
use Rattle.input_parts.specs.Parts.{entry_of_rows, entry_kept, entries_kept, unmarked, marked, partition_kept, sources_kept}
use Rattle.input_parts.proofs.Marks.{AreMarkedBy, mark_below}
use Rattle.stream_model.proofs.Facts.{after, le_max}

-- each record is above the watermark that goes before it, from a first one on
abbrev AreTimelyFrom : ℕ → ℤ → List Marked → Type 0
AreTimelyFrom time w [] = Unit {0}
AreTimelyFrom time w (e ∷ es) = All (λ r. w <ℤ at time r) (records_of_entry e) × AreTimelyFrom time (after w e) es

abbrev IsTimelyAt : ℕ → ℤ → List Marked → Type 0
IsTimelyAt time w es = (n : ℕ) (d : Marked) → n < length es → All (λ r. fold after w (take n es) <ℤ at time r) (records_of_entry (get_or es n d))

from_places : (time : ℕ) (w : ℤ) (es : List Marked) → IsTimelyAt time w es → AreTimelyFrom time w es
from_places time w [] h = tt
from_places time w (e ∷ es) h = (h 0 e (omega arith), from_places time (after w e) es (λ n d lt. h (suc n) d (omega arith)))

to_places : (time : ℕ) (w : ℤ) (es : List Marked) → AreTimelyFrom time w es → IsTimelyAt time w es
to_places time w [] h n d lt = absurd (omega arith)
to_places time w (e ∷ es) h zero d lt = h.0
to_places time w (e ∷ es) h (suc n) d lt = to_places time (after w e) es h.1 n d (omega arith)

watermark_there : (es : List Marked) (n : ℕ) → n < length es → partition_watermark es n ≡ fold after lowest (take n es)
watermark_there es n lt = rw (ne_eqb n (length es) (λ e. omega arith)) refl

from_orderly : (time : ℕ) (es : List Marked) → IsOrderlyPartition time es → AreTimelyFrom time lowest es
from_orderly time es h =
    from_places time lowest es (λ n d lt. subst (λ w. All (λ r. w <ℤ at time r) (records_of_entry (get_or es n d))) (watermark_there es n lt) (h n d lt))

to_orderly : (time : ℕ) (es : List Marked) → AreTimelyFrom time lowest es → IsOrderlyPartition time es
to_orderly time es h n d lt =
    subst (λ w. All (λ r. w <ℤ at time r) (records_of_entry (get_or es n d))) (sym (watermark_there es n lt)) (to_places time lowest es h n d lt)

below : (a b c : ℤ) → a ≤ℤ b → b <ℤ c → a <ℤ c
below a b c h k = omega (arith, ints)

raised : (a b c : ℤ) → a ≤ℤ b → int_max a c ≤ℤ int_max b c
raised a b c h = omega (arith, ints, clamps)

-- so it is from each lower watermark on
from_lower : (time : ℕ) (low high : ℤ) (es : List Marked) → low ≤ℤ high → AreTimelyFrom time high es → AreTimelyFrom time low es
from_lower time low high [] le h = tt
from_lower time low high (e ∷ es) le h = (
  All-weaker (λ r. high <ℤ at time r) (λ r. low <ℤ at time r) (λ r lt. below low high (at time r) le lt) (records_of_entry e) h.0,
  from_lower time (after low e) (after high e) es (raised low high (watermark_of_entry e) le) h.1,
)

highest_of : (w a b : ℤ) → a ≤ℤ b → int_max w a ≤ℤ int_max w b
highest_of w a b h = omega (arith, ints, clamps)

module _ (keep : Record → Bool) (bound : Option ℤ) (time : ℕ) where
  -- some of an entry's rows in its place: their watermark is no higher than its own
  from_rows : (w mark : ℤ) (width : ℕ) (ks rows : List Record) (es : List Entry) → mark ≡ mark_of bound time (Rows (record { width = width; rows = rows })) → ((P : Record → Type 0) → All P rows → All P ks)
      → All (λ r. w <ℤ at time r) rows → AreTimelyFrom time (int_max w mark) (marked bound time es) → AreTimelyFrom time w (marked bound time (entry_of_rows width ks ++ es))
  from_rows w mark width [] rows es is some h k = from_lower time w (int_max w mark) (marked bound time es) (le_max w mark) k
  from_rows w mark width (r ∷ rs) rows es is some h k =
      let own = mark_of bound time (Rows (record { width = width; rows = r ∷ rs })) in
      let low : own ≤ℤ mark = subst (λ m. own ≤ℤ m) (sym is) (mark_below bound time width r rs rows some) in
      (some (λ x. w <ℤ at time x) h, from_lower time (int_max w own) (int_max w mark) (marked bound time es) (highest_of w own mark low) k)

  from_entry : (w mark : ℤ) (e : Entry) (es : List Entry) → mark ≡ mark_of bound time e → All (λ r. w <ℤ at time r) (rows_in e) → AreTimelyFrom time (int_max w mark) (marked bound time es)
      → AreTimelyFrom time w (marked bound time (entry_kept keep e ++ es))
  from_entry w mark (Rows b) es is h k = from_rows w mark b.width (filter keep b.rows) b.rows es is (λ P all. All-filter keep P b.rows all) h k
  from_entry w mark (Watermark t) es is h k = (h, subst (λ m. AreTimelyFrom time (int_max w m) (marked bound time es)) is k)

  kept_timely : (w : ℤ) (es : List Marked) → All (IsMarked bound time) es → AreTimelyFrom time w es → AreTimelyFrom time w (partition_kept keep bound time es)
  kept_timely w [] marks h = tt
  kept_timely w (m ∷ es) marks h =
      from_entry w m.mark m.entry (entries_kept keep (unmarked es)) (All-head (IsMarked bound time) m es marks) h.0
      (kept_timely (int_max w m.mark) es (All-tail (IsMarked bound time) m es marks) h.1)

  source_orderly : (ps : List (List Marked)) → All (All (IsMarked bound time)) ps → AllByRecursion (IsOrderlyPartition time) ps → AllByRecursion (IsOrderlyPartition time) (map (partition_kept keep bound time) ps)
  source_orderly [] marks h = tt
  source_orderly (p ∷ ps) marks h = (
    to_orderly time (partition_kept keep bound time p) (kept_timely lowest p (All-head (All (IsMarked bound time)) p ps marks) (from_orderly time p h.0)),
    source_orderly ps (All-tail (All (IsMarked bound time)) p ps marks) h.1,
  )

pub sources_orderly : (keep : Record → Bool) (time : ℕ) (specs : List SourceSpec) (ss : List (List (List Marked))) → AllZip (AreMarkedBy time) specs ss → IsOrderly time ss → IsOrderly time (sources_kept keep time specs ss)
sources_orderly keep time [] [] marks h = tt
sources_orderly keep time (spec ∷ specs) [] marks h = absurd marks
sources_orderly keep time [] (s ∷ ss) marks h = absurd marks
sources_orderly keep time (spec ∷ specs) (s ∷ ss) marks h = (source_orderly keep spec.bound time s marks.0 h.0, sources_orderly keep time specs ss marks.1 h.1)
