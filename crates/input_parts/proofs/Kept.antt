-- What is left of the entries of an input where some records are kept: the records, and that each entry is still one.
use Rattle.std.proofs.Common.{◌≡◌, ℕ, ◌≤◌, ◌++◌, ℤ, Bool, List, [], ◌∷◌, map, length, Option, None, refl, sym, ap, ◌∙◌, arith}
use Rattle.std.specs.List.{All, AllZip, filter, flat_map}
use Rattle.std.proofs.lemmas.List.{append-nil, take_all, length-map}
use Rattle.std.proofs.lemmas.List.Concat.{flat_map-append}
use Rattle.std.proofs.lemmas.List.Sums.{length-filter, count_by-le-length}
use Rattle.std.proofs.lemmas.List.Elements.{All-nil, All-cons, All-head, All-tail, All-append, All-filter, All-map, All-weaker, filter-append}
use Rattle.plain_data.specs.Record.{Record, at}
use Rattle.plan_model.specs.PlanData.{IsBound}
use Rattle.plan_model.specs.Windows.{IsTime}
use Rattle.plan_model.specs.declared.spec.SourceSpec.{SourceSpec}
use Rattle.stream_model.specs.declared.entry.Entry.{Entry}
use Rattle.stream_model.specs.declared.entry.Entry.TheVariants.{Rows, Watermark}
use Rattle.stream_model.specs.declared.entry.Marked.{Marked}
use Rattle.stream_model.specs.InputData.{IsEntry, records_of_entry, records_in, records_in_source, all_records}
use Rattle.stream_model.specs.Marks.{IsEntryOf, IsMarked, rows_in}
use Rattle.stream_model.specs.Watermarks.{records_before, records_before_in, full_cut}
use Rattle.input_parts.specs.Parts.{entry_of_rows, entry_kept, entries_kept, unmarked, marked_by, marked, partition_kept, sources_kept}
use Rattle.input_parts.proofs.Marks.{AreMarkedBy, mark_in_range}

pub of_map : {X Y Z : Type 0} (f : Y → List Z) (g : X → Y) (xs : List X) → flat_map f (map g xs) ≡ flat_map (λ x. f (g x)) xs
of_map f g [] = refl
of_map f g (x ∷ xs) = ap (λ zs. f (g x) ++ zs) (of_map f g xs)

rows_records : (width : ℕ) (rs : List Record) → flat_map rows_in (entry_of_rows width rs) ≡ rs
rows_records width [] = refl
rows_records width (r ∷ rs) = append-nil (r ∷ rs)

entry_records : (keep : Record → Bool) (e : Entry) → flat_map rows_in (entry_kept keep e) ≡ filter keep (rows_in e)
entry_records keep (Rows b) = rows_records b.width (filter keep b.rows)
entry_records keep (Watermark t) = refl

entries_records : (keep : Record → Bool) (es : List Entry) → flat_map rows_in (entries_kept keep es) ≡ filter keep (flat_map rows_in es)
entries_records keep [] = refl
entries_records keep (e ∷ es) =
    flat_map-append rows_in (entry_kept keep e) (entries_kept keep es)
    ∙ (λ i. entry_records keep e i ++ entries_records keep es i)
    ∙ sym (filter-append keep (rows_in e) (flat_map rows_in es))

-- the records of a partition are those that are kept, in order
pub records_kept : (keep : Record → Bool) (bound : Option ℤ) (time : ℕ) (es : List Marked) → records_in (partition_kept keep bound time es) ≡ filter keep (records_in es)
records_kept keep bound time es =
    of_map records_of_entry (marked_by bound time) (entries_kept keep (unmarked es))
    ∙ entries_records keep (unmarked es)
    ∙ ap (filter keep) (of_map rows_in (λ m. m.entry) es)

source_records : (keep : Record → Bool) (bound : Option ℤ) (time : ℕ) (ps : List (List Marked)) → records_in_source (map (partition_kept keep bound time) ps) ≡ filter keep (records_in_source ps)
source_records keep bound time [] = refl
source_records keep bound time (p ∷ ps) =
    (λ i. records_kept keep bound time p i ++ source_records keep bound time ps i) ∙ sym (filter-append keep (records_in p) (records_in_source ps))

-- and so are those of all sources
pub all_kept : (keep : Record → Bool) (time : ℕ) (specs : List SourceSpec) (ss : List (List (List Marked))) → all_records (sources_kept keep time specs ss) ≡ filter keep (all_records ss)
all_kept keep time [] [] = refl
all_kept keep time (spec ∷ specs) [] = refl
all_kept keep time [] (s ∷ ss) =
    (λ i. source_records keep None time s i ++ all_kept keep time [] ss i) ∙ sym (filter-append keep (records_in_source s) (all_records ss))
all_kept keep time (spec ∷ specs) (s ∷ ss) =
    (λ i. source_records keep spec.bound time s i ++ all_kept keep time specs ss i) ∙ sym (filter-append keep (records_in_source s) (all_records ss))

full_in : (ps : List (List Marked)) → records_before_in ps (map (λ p. length p) ps) ≡ records_in_source ps
full_in [] = refl
full_in (p ∷ ps) = λ i. records_in (take_all (length p) p (omega arith) i) ++ full_in ps i

-- all records stand before the full cut
pub full_records : (ss : List (List (List Marked))) → records_before ss (full_cut ss) ≡ all_records ss
full_records [] = refl
full_records (s ∷ ss) = λ i. full_in s i ++ full_records ss i

pub few_kept : (keep : Record → Bool) (rs : List Record) → length (filter keep rs) ≤ length rs
few_kept keep rs = omega (arith, length-filter keep rs, count_by-le-length keep rs)

module _ (columns time : ℕ) (keep : Record → Bool) where
  abbrev Sound : Entry → Type 0
  Sound e = IsEntryOf columns time e

  rows_sound : (width : ℕ) (rs : List Record) → width ≡ columns → All (λ r. IsTime (at time r)) rs → All Sound (entry_of_rows width rs)
  rows_sound width [] wide times = All-nil Sound
  rows_sound width (r ∷ rs) wide times = All-cons Sound (Rows (record { width = width; rows = r ∷ rs })) [] (wide, times) (All-nil Sound)

  entry_sound : (e : Entry) → Sound e → All Sound (entry_kept keep e)
  entry_sound (Rows b) h = rows_sound b.width (filter keep b.rows) h.0 (All-filter keep (λ r. IsTime (at time r)) b.rows h.1)
  entry_sound (Watermark t) h = All-cons Sound (Watermark t) [] h (All-nil Sound)

  entries_sound : (es : List Entry) → All Sound es → All Sound (entries_kept keep es)
  entries_sound [] h = All-nil Sound
  entries_sound (e ∷ es) h = All-append Sound (entry_kept keep e) (entries_kept keep es) (entry_sound e (All-head Sound e es h)) (entries_sound es (All-tail Sound e es h))

  partition_sound : (bound : Option ℤ) → IsBound bound → (es : List Marked) → All (IsEntry columns time) es → All (IsEntry columns time) (partition_kept keep bound time es)
  partition_sound bound within es h =
      let sound : All Sound (unmarked es) = All-map Sound (λ m. m.entry) es (All-weaker (IsEntry columns time) (λ m. Sound m.entry) (λ m k. k.0) es h) in
      let kept = entries_kept keep (unmarked es) in
      All-map (IsEntry columns time) (marked_by bound time) kept
      (All-weaker Sound (λ e. IsEntry columns time (marked_by bound time e)) (λ e k. (k, mark_in_range columns time bound e within k)) kept (entries_sound (unmarked es) sound))

  source_sound : (bound : Option ℤ) → IsBound bound → (ps : List (List Marked)) → All (All (IsEntry columns time)) ps → All (All (IsEntry columns time)) (map (partition_kept keep bound time) ps)
  source_sound bound within ps h =
      All-map (All (IsEntry columns time)) (partition_kept keep bound time) ps
      (All-weaker (All (IsEntry columns time)) (λ p. All (IsEntry columns time) (partition_kept keep bound time p)) (partition_sound bound within) ps h)

  abbrev AreSound : List (List Marked) → Type 0
  AreSound ps = All (All (IsEntry columns time)) ps

  abbrev Within : SourceSpec → Type 0
  Within s = IsBound s.bound

  -- each entry that is kept is one of the same columns
  pub sources_sound : (specs : List SourceSpec) (ss : List (List (List Marked))) → All Within specs → All AreSound ss → All AreSound (sources_kept keep time specs ss)
  sources_sound [] [] within h = All-nil AreSound
  sources_sound (spec ∷ specs) [] within h = All-nil AreSound
  sources_sound [] (s ∷ ss) within h =
      All-cons AreSound (map (partition_kept keep None time) s) (sources_kept keep time [] ss)
      (source_sound None tt s (All-head AreSound s ss h)) (sources_sound [] ss within (All-tail AreSound s ss h))
  sources_sound (spec ∷ specs) (s ∷ ss) within h =
      All-cons AreSound (map (partition_kept keep spec.bound time) s) (sources_kept keep time specs ss)
      (source_sound spec.bound (All-head Within spec specs within) s (All-head AreSound s ss h))
      (sources_sound specs ss (All-tail Within spec specs within) (All-tail AreSound s ss h))

-- no partition is left out
pub same_counts : (keep : Record → Bool) (time : ℕ) (specs : List SourceSpec) (ss : List (List (List Marked))) → map (λ ps. length ps) (sources_kept keep time specs ss) ≡ map (λ ps. length ps) ss
same_counts keep time [] [] = refl
same_counts keep time (spec ∷ specs) [] = refl
same_counts keep time [] (s ∷ ss) = λ i. length-map s (partition_kept keep None time) i ∷ same_counts keep time [] ss i
same_counts keep time (spec ∷ specs) (s ∷ ss) = λ i. length-map s (partition_kept keep spec.bound time) i ∷ same_counts keep time specs ss i

-- what a source gives its entries is what they are marked by
marks_given : (bound : Option ℤ) (time : ℕ) (es : List Entry) → All (IsMarked bound time) (marked bound time es)
marks_given bound time [] = All-nil (IsMarked bound time)
marks_given bound time (e ∷ es) = All-cons (IsMarked bound time) (marked_by bound time e) (marked bound time es) refl (marks_given bound time es)

source_marked : (keep : Record → Bool) (bound : Option ℤ) (time : ℕ) (ps : List (List Marked)) → All (All (IsMarked bound time)) (map (partition_kept keep bound time) ps)
source_marked keep bound time [] = All-nil (All (IsMarked bound time))
source_marked keep bound time (p ∷ ps) =
    All-cons (All (IsMarked bound time)) (partition_kept keep bound time p) (map (partition_kept keep bound time) ps)
    (marks_given bound time (entries_kept keep (unmarked p))) (source_marked keep bound time ps)

pub sources_marked : (keep : Record → Bool) (time : ℕ) (specs : List SourceSpec) (ss : List (List (List Marked))) → AllZip (AreMarkedBy time) specs ss → AllZip (AreMarkedBy time) specs (sources_kept keep time specs ss)
sources_marked keep time [] [] h = tt
sources_marked keep time (spec ∷ specs) [] h = h
sources_marked keep time [] (s ∷ ss) h = h
sources_marked keep time (spec ∷ specs) (s ∷ ss) h = (source_marked keep spec.bound time s, sources_marked keep time specs ss h.1)
