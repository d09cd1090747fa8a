-- What a part keeps, and the plan's rows on it.
use Rattle.std.proofs.Common.{◌≡◌, ℕ, ◌==◌, Bool, true, false, cond, ◌&&◌, ℤ, List, [], ◌∷◌, ◌++◌, map, length, Option, None, refl, sym, ap, ◌∙◌, arith, if◌then◌else◌}
use Rattle.std.specs.List.{All, filter, flat_map}
use Rattle.std.specs.Option.{option_and_then}
use Rattle.std.specs.Ordering.{int_eq}
use Rattle.std.proofs.lemmas.Int.{ints}
use Rattle.std.proofs.lemmas.List.Elements.{All-nil, All-cons, All-head, All-tail, All-append, All-map, All-weaker, filter_passes}
use Rattle.std.proofs.lemmas.List.Concat.{flat_map-append}
use Rattle.plain_data.proofs.Facts.{filter_turned}
use Rattle.plain_data.specs.Record.{Record, at}
use Rattle.plan_model.specs.declared.spec.Pane.{Pane}
use Rattle.plan_model.specs.declared.spec.Row.{Row}
use Rattle.plan_model.specs.declared.spec.SourceSpec.{SourceSpec}
use Rattle.plan_model.specs.declared.spec.WindowSpec.{WindowSpec}
use Rattle.plan_model.specs.PlanData.{PlanData}
use Rattle.plan_model.specs.Windows.{passes, is_start, is_at, is_within}
use Rattle.plan_model.specs.Aggregates.{Aggregated, aggregate_of}
use Rattle.plan_model.specs.Rows.{kept_row}
use Rattle.stream_model.specs.declared.entry.Entry.{Entry}
use Rattle.stream_model.specs.declared.entry.Entry.TheVariants.{Rows, Watermark}
use Rattle.stream_model.specs.declared.entry.Marked.{Marked}
use Rattle.stream_model.specs.InputData.{all_records, records_in}
use Rattle.stream_model.specs.Watermarks.{records_before, full_cut}
use Rattle.stream_model.specs.PlanRows.{passing}
use Rattle.stream_model.proofs.Facts.{filter_nothing}
use Rattle.input_parts.specs.Parts.{part_of_key, is_in_part, entry_of_rows, entry_kept, entries_kept, unmarked, marked_by, partition_kept, sources_kept}
use Rattle.input_parts.specs.Laws.{watermarks_of_entry, watermarks_in, HasSome, PartsAreInputs, PartsKeepTheirOwn, PartsHaveTheirRows}
use Rattle.input_parts.proofs.Kept.{of_map, records_kept, all_kept, full_records, few_kept, sources_sound, sources_marked, same_counts}
use Rattle.input_parts.proofs.Timely.{sources_orderly}

pub parts_are_inputs : PartsAreInputs
parts_are_inputs plan parts i input bounded h =
    let keep = is_in_part plan parts i in
    record {
      is = record {
        entries = sources_sound input.columns input.time keep plan.sources input.sources bounded h.is.entries;
        few = omega (arith, ap length (all_kept keep input.time plan.sources input.sources), few_kept keep (all_records input.sources), h.is.few);
      };
      belongs = record {
        columns = h.belongs.columns;
        time = h.belongs.time;
        partitions = same_counts keep input.time plan.sources input.sources ∙ h.belongs.partitions;
        marks = sources_marked keep input.time plan.sources input.sources h.belongs.marks;
      };
      orderly = sources_orderly keep input.time plan.sources input.sources h.belongs.marks h.orderly;
    }

-- ---- what each partition keeps

rows_watermarks : (width : ℕ) (rs : List Record) → flat_map watermarks_of_entry (entry_of_rows width rs) ≡ []
rows_watermarks width [] = refl
rows_watermarks width (r ∷ rs) = refl

entry_watermarks : (keep : Record → Bool) (e : Entry) → flat_map watermarks_of_entry (entry_kept keep e) ≡ watermarks_of_entry e
entry_watermarks keep (Rows b) = rows_watermarks b.width (filter keep b.rows)
entry_watermarks keep (Watermark t) = refl

entries_watermarks : (keep : Record → Bool) (es : List Entry) → flat_map watermarks_of_entry (entries_kept keep es) ≡ flat_map watermarks_of_entry es
entries_watermarks keep [] = refl
entries_watermarks keep (e ∷ es) =
    flat_map-append watermarks_of_entry (entry_kept keep e) (entries_kept keep es) ∙ (λ i. entry_watermarks keep e i ++ entries_watermarks keep es i)

watermarks_kept : (keep : Record → Bool) (bound : Option ℤ) (time : ℕ) (es : List Marked) → watermarks_in (partition_kept keep bound time es) ≡ watermarks_in es
watermarks_kept keep bound time es =
    of_map (λ m. watermarks_of_entry m.entry) (marked_by bound time) (entries_kept keep (unmarked es))
    ∙ entries_watermarks keep (unmarked es)
    ∙ of_map watermarks_of_entry (λ m. m.entry) es

rows_some : (width : ℕ) (rs : List Record) → All HasSome (entry_of_rows width rs)
rows_some width [] = All-nil HasSome
rows_some width (r ∷ rs) = All-cons HasSome (Rows (record { width = width; rows = r ∷ rs })) [] (omega arith) (All-nil HasSome)

entry_some : (keep : Record → Bool) (e : Entry) → All HasSome (entry_kept keep e)
entry_some keep (Rows b) = rows_some b.width (filter keep b.rows)
entry_some keep (Watermark t) = All-cons HasSome (Watermark t) [] tt (All-nil HasSome)

entries_some : (keep : Record → Bool) (es : List Entry) → All HasSome (entries_kept keep es)
entries_some keep [] = All-nil HasSome
entries_some keep (e ∷ es) = All-append HasSome (entry_kept keep e) (entries_kept keep es) (entry_some keep e) (entries_some keep es)

abbrev HaveSome : List Marked → Type 0
HaveSome entries = All (λ m. HasSome m.entry) entries

partition_some : (keep : Record → Bool) (bound : Option ℤ) (time : ℕ) (es : List Marked) → HaveSome (partition_kept keep bound time es)
partition_some keep bound time es =
    All-map (λ m. HasSome m.entry) (marked_by bound time) (entries_kept keep (unmarked es)) (entries_some keep (unmarked es))

source_some : (keep : Record → Bool) (bound : Option ℤ) (time : ℕ) (ps : List (List Marked)) → All HaveSome (map (partition_kept keep bound time) ps)
source_some keep bound time [] = All-nil HaveSome
source_some keep bound time (p ∷ ps) =
    All-cons HaveSome (partition_kept keep bound time p) (map (partition_kept keep bound time) ps) (partition_some keep bound time p) (source_some keep bound time ps)

sources_some : (keep : Record → Bool) (time : ℕ) (specs : List SourceSpec) (ss : List (List (List Marked))) → All (All HaveSome) (sources_kept keep time specs ss)
sources_some keep time [] [] = All-nil (All HaveSome)
sources_some keep time (spec ∷ specs) [] = All-nil (All HaveSome)
sources_some keep time [] (s ∷ ss) =
    All-cons (All HaveSome) (map (partition_kept keep None time) s) (sources_kept keep time [] ss) (source_some keep None time s) (sources_some keep time [] ss)
sources_some keep time (spec ∷ specs) (s ∷ ss) =
    All-cons (All HaveSome) (map (partition_kept keep spec.bound time) s) (sources_kept keep time specs ss) (source_some keep spec.bound time s) (sources_some keep time specs ss)

-- what comes of each list, comes of each of the lists
each : {X Y : Type 0} (f : X → X) (g h : X → Y) → ((x : X) → g (f x) ≡ h x) → (xs : List X) → map g (map f xs) ≡ map h xs
each f g h same [] = refl
each f g h same (x ∷ xs) = λ i. same x i ∷ each f g h same xs i

-- what comes of each partition, comes of those of all sources
of_sources : {Y : Type 0} (keep : Record → Bool) (time : ℕ) (g h : List Marked → Y) → ((bound : Option ℤ) (es : List Marked) → g (partition_kept keep bound time es) ≡ h es)
    → (specs : List SourceSpec) (ss : List (List (List Marked))) → map (map g) (sources_kept keep time specs ss) ≡ map (map h) ss
of_sources keep time g h same [] [] = refl
of_sources keep time g h same (spec ∷ specs) [] = refl
of_sources keep time g h same [] (s ∷ ss) = λ i. each (partition_kept keep None time) g h (same None) s i ∷ of_sources keep time g h same [] ss i
of_sources keep time g h same (spec ∷ specs) (s ∷ ss) =
    λ i. each (partition_kept keep spec.bound time) g h (same spec.bound) s i ∷ of_sources keep time g h same specs ss i

pub parts_keep_their_own : PartsKeepTheirOwn
parts_keep_their_own plan parts i input =
    let keep = is_in_part plan parts i in
    record {
      records = of_sources keep input.time records_in (λ es. filter keep (records_in es)) (λ bound es. records_kept keep bound input.time es) plan.sources input.sources;
      watermarks = of_sources keep input.time watermarks_in watermarks_in (λ bound es. watermarks_kept keep bound input.time es) plan.sources input.sources;
      some = sources_some keep input.time plan.sources input.sources;
    }

-- ---- the plan's rows

filter_everything : {X : Type 0} (p : X → Bool) (xs : List X) → All (λ x. p x ≡ true) xs → filter p xs ≡ xs
filter_everything p [] h = refl
filter_everything p (x ∷ xs) h =
    ap (λ b. cond b (x ∷ filter p xs) (filter p xs)) (All-head (λ y. p y ≡ true) x xs h) ∙ ap (λ l. x ∷ l) (filter_everything p xs (All-tail (λ y. p y ≡ true) x xs h))

-- a second test that answers alike wherever the first one is passed keeps all or nothing
kept_alike : {X : Type 0} (keep : X → Bool) (b : Bool) (xs : List X) → All (λ x. keep x ≡ b) xs → filter keep xs ≡ cond b xs []
kept_alike keep true xs h = filter_everything keep xs h
kept_alike keep false xs h = filter_nothing keep xs h

filter_there : {X : Type 0} (test keep : X → Bool) (b : Bool) → ((x : X) → test x ≡ true → keep x ≡ b) → (xs : List X) → filter test (filter keep xs) ≡ cond b (filter test xs) []
filter_there test keep b alike xs =
    filter_turned test keep xs
    ∙ kept_alike keep b (filter test xs) (All-weaker (λ x. test x ≡ true) (λ x. keep x ≡ b) alike (filter test xs) (filter_passes test xs))

key_there : (a b : ℤ) (c : Bool) → (int_eq a b && c) ≡ true → a ≡ b
key_there a b c h = grind (arith, ints)

-- the records of a pane are all in the part of its key
in_part_there : (plan : PlanData) (parts i : ℕ) (q : Pane) (r : Record) → is_at plan.window q r ≡ true → is_in_part plan parts i r ≡ (part_of_key plan parts q.key == i)
in_part_there plan parts i q r h =
    ap (λ key. part_of_key plan parts key == i) (key_there (at plan.window.key r) q.key (is_within plan.window q.start (at plan.window.time r)) h)

abbrev row_of : WindowSpec → Pane → List Record → Option Row
row_of w q rs = option_and_then (kept_row w q) (if is_start w q.start then aggregate_of w.aggregates rs else None)

of_none : (w : WindowSpec) (q : Pane) (b : Bool) → (let none : Option Aggregated = None in option_and_then (kept_row w q) (if b then none else none) ≡ None)
of_none w q true = refl
of_none w q false = refl

row_there : (w : WindowSpec) (q : Pane) (rs : List Record) (b : Bool) → row_of w q (cond b rs []) ≡ (if b then row_of w q rs else None)
row_there w q rs true = refl
row_there w q rs false = of_none w q (is_start w q.start)

pub parts_have_their_rows : PartsHaveTheirRows
parts_have_their_rows plan parts i input q =
    let w = plan.window in
    let keep = is_in_part plan parts i in
    let b : Bool = part_of_key plan parts q.key == i in
    let whole = records_before input.sources (full_cut input.sources) in
    let kept = sources_kept keep input.time plan.sources input.sources in
    let part : records_before kept (full_cut kept) ≡ filter keep whole =
    full_records kept ∙ all_kept keep input.time plan.sources input.sources ∙ ap (filter keep) (sym (full_records input.sources)) in
    ap (row_of w q)
    (ap (λ rs. filter (is_at w q) (passing plan rs)) part
    ∙ ap (filter (is_at w q)) (filter_turned (passes plan.filters) keep whole)
    ∙ filter_there (is_at w q) keep b (in_part_there plan parts i q) (passing plan whole))
    ∙ row_there w q (filter (is_at w q) (passing plan whole)) b
