-- Two small pairs of inputs that do not agree before a cut, each for one reason, and of which other rows are due there.
use Rattle.std.proofs.Common.{◌≡◌, ℤ, pos, ◌<◌, ◌≤◌, ◌<ℤ◌, zero, suc, List, [], ◌∷◌, length, Some, None, true, refl, sym, ◌∙◌, arith}
use Rattle.std.proofs.lemmas.Int.{ints}
use Rattle.std.proofs.lemmas.List.Elements.{All-nil, All-cons}
use Rattle.std.specs.Prelude.{FitsSigned}
use Rattle.std.specs.Int.{w64}
use Rattle.std.specs.List.{All}
use Rattle.plain_data.specs.Record.{at}
use Rattle.plain_data.specs.Times.{lowest}
use Rattle.plan_model.specs.PlanData.{PlanData, IsPlan, IsBound, has_column}
use Rattle.plan_model.specs.Windows.{IsTime}
use Rattle.plan_model.specs.Uids.{is_uid}
use Rattle.plan_model.specs.declared.limits.TheConstants.{MOST_PARTITIONS, MOST_RECORDS}
use Rattle.plan_model.specs.declared.spec.Aggregate.TheVariants.{Count}
use Rattle.plan_model.specs.declared.spec.FilterSpec.{FilterSpec}
use Rattle.plan_model.specs.declared.spec.Having.{Having}
use Rattle.plan_model.specs.declared.spec.SourceSpec.{SourceSpec}
use Rattle.stream_model.specs.declared.entry.Entry.TheVariants.{Rows, Watermark}
use Rattle.stream_model.specs.declared.entry.Marked.{Marked}
use Rattle.stream_model.specs.InputData.{InputData, IsEntry, IsInput, IsMarked, BelongsTo, all_records}
use Rattle.stream_model.specs.Watermarks.{IsOrderlyPartition}
use Rattle.stream_model.specs.PlanRows.{due_rows}
use Rattle.input_changes.specs.Laws.{EntriesAreNeeded, WatermarksAreNeeded}

-- a source that makes no watermarks of its own
abbrev only_source : SourceSpec
only_source = record { uid = 115 ∷ []; partitions = 1; bound = None }

-- a plan that counts the records of each key in windows of ten, and inputs of one partition
abbrev counting : PlanData
counting = record {
  columns = 2;
  max = 1;
  sources = only_source ∷ [];
  filters = [];
  window = record { uid = 119 ∷ []; time = 0; key = 1; size = pos 10; slide = pos 10; offset = pos 0; aggregates = Count ∷ []; having = [] };
}

abbrev of_entries : List Marked → InputData
of_entries entries = record { columns = 2; time = 0; sources = (entries ∷ []) ∷ [] }

abbrev one_record : ℤ → ℤ → Marked
one_record time key = record { entry = Rows (record { width = 2; rows = (time ∷ key ∷ []) ∷ [] }); mark = lowest }

abbrev no_later : ℤ → Marked
no_later t = record { entry = Watermark t; mark = t }

-- a partition that is read to its end, and goes on later
abbrev read_to_its_end : InputData
read_to_its_end = of_entries (one_record (pos 1) (pos 7) ∷ [])

abbrev gone_on : InputData
gone_on = of_entries (one_record (pos 1) (pos 7) ∷ one_record (pos 2) (pos 7) ∷ [])

-- a record whose key is put right, before a watermark
abbrev as_it_came : InputData
as_it_came = of_entries (one_record (pos 1) (pos 7) ∷ no_later (pos 9) ∷ one_record (pos 12) (pos 7) ∷ [])

abbrev put_right : InputData
put_right = of_entries (one_record (pos 1) (pos 8) ∷ no_later (pos 9) ∷ one_record (pos 12) (pos 7) ∷ [])

-- ---- what is due of them

due_early : due_rows counting read_to_its_end.sources ((1 ∷ []) ∷ []) (record { start = pos 0; key = pos 7 }) ≡ Some (record { start = pos 0; end = pos 10; key = pos 7; values = pos 1 ∷ [] })
due_early = refl

not_due : due_rows counting gone_on.sources ((1 ∷ []) ∷ []) (record { start = pos 0; key = pos 7 }) ≡ None
not_due = refl

was_due : due_rows counting as_it_came.sources ((2 ∷ []) ∷ []) (record { start = pos 0; key = pos 7 }) ≡ Some (record { start = pos 0; end = pos 10; key = pos 7; values = pos 1 ∷ [] })
was_due = refl

none_there : due_rows counting put_right.sources ((2 ∷ []) ∷ []) (record { start = pos 0; key = pos 7 }) ≡ None
none_there = refl

-- ---- the plan and the inputs are such as are read

sound : IsPlan counting
sound = record {
  columned = omega arith;
  columns_few = omega arith;
  time = omega arith;
  key = omega arith;
  filter_columns = All-nil (λ (f : FilterSpec). f.column < 2);
  aggregate_columns = All-cons (has_column 2) Count [] tt (All-nil (has_column 2));
  grouped = omega arith;
  max_small = omega arith;
  sourced = omega arith;
  sources_few = omega arith;
  partitioned = All-cons (λ (s : SourceSpec). 1 ≤ s.partitions) (only_source) [] (omega arith) (All-nil (λ (s : SourceSpec). 1 ≤ s.partitions));
  partitions_few = All-cons (λ (s : SourceSpec). s.partitions ≤ MOST_PARTITIONS) (only_source) [] (omega arith) (All-nil (λ (s : SourceSpec). s.partitions ≤ MOST_PARTITIONS));
  bounded = All-cons (λ (s : SourceSpec). IsBound s.bound) only_source [] tt (All-nil (λ (s : SourceSpec). IsBound s.bound));
  named = All-cons (λ uid. is_uid uid ≡ true) (115 ∷ []) ((119 ∷ []) ∷ []) refl (All-cons (λ uid. is_uid uid ≡ true) (119 ∷ []) [] refl (All-nil (λ uid. is_uid uid ≡ true)));
  distinct = refl;
  filters_few = omega arith;
  filter_values = All-nil (λ (f : FilterSpec). FitsSigned w64 f.value);
  window = record { sized = omega (arith, ints); size_small = omega (arith, ints); slides = omega (arith, ints); slide_small = omega (arith, ints); offset_above = omega (arith, ints); offset_below = omega (arith, ints); panes = omega (arith, ints) };
  aggregated = omega arith;
  aggregates_few = omega arith;
  having_few = omega arith;
  having_values = All-nil (λ (h : Having). FitsSigned w64 h.value);
  having_places = All-nil (λ (h : Having). h.aggregate < 1);
}

belongs : (entries : List Marked) → All (IsMarked None 0) entries → BelongsTo counting (of_entries entries)
belongs entries marks = record {
  columns = refl;
  time = refl;
  partitions = refl;
  marks = (All-cons (All (IsMarked None 0)) entries [] marks (All-nil (All (IsMarked None 0))), tt);
}

is_input : (entries : List Marked) → All (IsEntry 2 0) entries → length (all_records (of_entries entries).sources) ≤ MOST_RECORDS → IsInput (of_entries entries)
is_input entries each few = record {
  entries = All-cons (λ partitions. All (λ es. All (IsEntry 2 0) es) partitions) (entries ∷ []) [] (All-cons (λ es. All (IsEntry 2 0) es) entries [] each (All-nil (λ es. All (IsEntry 2 0) es))) (All-nil (λ partitions. All (λ es. All (IsEntry 2 0) es) partitions));
  few = few;
}

record_is : (time key : ℤ) → IsTime time → IsEntry 2 0 (one_record time key)
record_is time key h = ((refl, All-cons (λ r. IsTime (at 0 r)) (time ∷ key ∷ []) [] h (All-nil (λ r. IsTime (at 0 r)))), (omega (arith, ints), omega (arith, ints)))

watermark_is : IsEntry 2 0 (no_later (pos 9))
watermark_is = (refl, (omega (arith, ints), omega (arith, ints)))

short_is : IsInput read_to_its_end
short_is = is_input (one_record (pos 1) (pos 7) ∷ []) (All-cons (IsEntry 2 0) (one_record (pos 1) (pos 7)) [] (record_is (pos 1) (pos 7) refl) (All-nil (IsEntry 2 0))) (omega arith)

long_is : IsInput gone_on
long_is = is_input (one_record (pos 1) (pos 7) ∷ one_record (pos 2) (pos 7) ∷ [])
    (All-cons (IsEntry 2 0) (one_record (pos 1) (pos 7)) (one_record (pos 2) (pos 7) ∷ []) (record_is (pos 1) (pos 7) refl) (All-cons (IsEntry 2 0) (one_record (pos 2) (pos 7)) [] (record_is (pos 2) (pos 7) refl) (All-nil (IsEntry 2 0)))) (omega arith)

three : (key : ℤ) → IsInput (of_entries (one_record (pos 1) key ∷ no_later (pos 9) ∷ one_record (pos 12) (pos 7) ∷ []))
three key = is_input (one_record (pos 1) key ∷ no_later (pos 9) ∷ one_record (pos 12) (pos 7) ∷ [])
    (All-cons (IsEntry 2 0) (one_record (pos 1) key) (no_later (pos 9) ∷ one_record (pos 12) (pos 7) ∷ []) (record_is (pos 1) key refl)
    (All-cons (IsEntry 2 0) (no_later (pos 9)) (one_record (pos 12) (pos 7) ∷ []) watermark_is (All-cons (IsEntry 2 0) (one_record (pos 12) (pos 7)) [] (record_is (pos 12) (pos 7) refl) (All-nil (IsEntry 2 0))))) (omega arith)

-- each entry brings its own mark, where it has one
none_marked : All (IsMarked None 0) []
none_marked = All-nil (IsMarked None 0)

one_marked : (time key : ℤ) (entries : List Marked) → All (IsMarked None 0) entries → All (IsMarked None 0) (one_record time key ∷ entries)
one_marked time key entries all = All-cons (IsMarked None 0) (one_record time key) entries refl all

short_marked : BelongsTo counting read_to_its_end
short_marked = belongs _ (one_marked (pos 1) (pos 7) [] none_marked)

long_marked : BelongsTo counting gone_on
long_marked = belongs _ (one_marked (pos 1) (pos 7) (one_record (pos 2) (pos 7) ∷ []) (one_marked (pos 2) (pos 7) [] none_marked))

three_marked : (key : ℤ) → BelongsTo counting (of_entries (one_record (pos 1) key ∷ no_later (pos 9) ∷ one_record (pos 12) (pos 7) ∷ []))
three_marked key =
    let last = one_record (pos 12) (pos 7) ∷ [] in
    belongs _ (one_marked (pos 1) key (no_later (pos 9) ∷ last) (All-cons (IsMarked None 0) (no_later (pos 9)) last refl (one_marked (pos 12) (pos 7) [] none_marked)))

-- each record is above the watermark before it
one_later : (w time key : ℤ) → w <ℤ time → All (λ r. w <ℤ at 0 r) ((time ∷ key ∷ []) ∷ [])
one_later w time key h = All-cons (λ r. w <ℤ at 0 r) (time ∷ key ∷ []) [] h (All-nil (λ r. w <ℤ at 0 r))

short_orderly : IsOrderlyPartition 0 (one_record (pos 1) (pos 7) ∷ [])
short_orderly zero d l = one_later lowest (pos 1) (pos 7) (omega (arith, ints))
short_orderly (suc n) d l = absurd (omega (arith, l))

long_orderly : IsOrderlyPartition 0 (one_record (pos 1) (pos 7) ∷ one_record (pos 2) (pos 7) ∷ [])
long_orderly zero d l = one_later lowest (pos 1) (pos 7) (omega (arith, ints))
long_orderly (suc zero) d l = one_later lowest (pos 2) (pos 7) (omega (arith, ints))
long_orderly (suc (suc n)) d l = absurd (omega (arith, l))

three_orderly : (key : ℤ) → IsOrderlyPartition 0 (one_record (pos 1) key ∷ no_later (pos 9) ∷ one_record (pos 12) (pos 7) ∷ [])
three_orderly key zero d l = one_later lowest (pos 1) key (omega (arith, ints))
three_orderly key (suc zero) d l = All-nil (λ r. lowest <ℤ at 0 r)
three_orderly key (suc (suc zero)) d l = one_later (pos 9) (pos 12) (pos 7) (omega (arith, ints))
three_orderly key (suc (suc (suc n))) d l = absurd (omega (arith, l))

-- ---- so what is due of them is not the same

pub watermarks_are_needed : WatermarksAreNeeded
watermarks_are_needed same =
    let both = same counting read_to_its_end gone_on ((1 ∷ []) ∷ []) sound short_is long_is short_marked long_marked ((short_orderly, tt), tt) ((long_orderly, tt), tt) ((omega arith, tt), tt) ((omega arith, tt), tt) refl in
    let e : Some _ ≡ None = sym due_early ∙ both.due (record { start = pos 0; key = pos 7 }) ∙ not_due in
    absurd cc

pub entries_are_needed : EntriesAreNeeded
entries_are_needed same =
    let both = same counting as_it_came put_right ((2 ∷ []) ∷ []) sound (three (pos 7)) (three (pos 8)) (three_marked (pos 7)) (three_marked (pos 8)) ((three_orderly (pos 7), tt), tt) ((three_orderly (pos 8), tt), tt) ((omega arith, tt), tt) ((omega arith, tt), tt) refl in
    let e : Some _ ≡ None = sym was_due ∙ both.due (record { start = pos 0; key = pos 7 }) ∙ none_there in
    absurd cc
