-- The laws of watermarks, cuts and the plan's rows.
use Rattle.std.specs.Prelude.{◌≡◌, ◌≢◌, ℕ, ◌+◌, ◌<◌, ℤ, ◌≤ℤ◌, ◌⊎◌, true, false, List, length, slice_index_or, take, Some, None, if◌then◌else◌}
use Rattle.std.specs.Int.{int_max}
use Rattle.std.specs.List.{All, AllByRecursion, list_any}
use Rattle.std.specs.Option.{option_and_then}
use Rattle.std.specs.Ordering.{int_eq}
use Rattle.plan_model.specs.declared.spec.Pane.{Pane}
use Rattle.plan_model.specs.declared.spec.Row.{Row}
use Rattle.plan_model.specs.declared.spec.WindowSpec.{WindowSpec}
use Rattle.plan_model.specs.PlanData.{PlanData, IsPlan}
use Rattle.plan_model.specs.Aggregates.{merge}
use Rattle.plan_model.specs.Rows.{is_due, kept_row}
use Rattle.stream_model.specs.declared.entry.Marked.{Marked}
use Rattle.stream_model.specs.InputData.{InputData, IsInput, BelongsTo}
use Rattle.stream_model.specs.Watermarks.{watermark_of_entry, partition_watermark, merged_watermark, records_before, records_between, full_cut, empty_cut, IsOrderly, IsCut, IsBefore}
use Rattle.plain_data.specs.Times.{lowest, highest}
use Rattle.stream_model.specs.PlanRows.{plan_aggregate, plan_rows, due_rows, snapshot, carried}

-- short of its end, a partition's watermark is at least each watermark before it, and is one of them or the least i64
abbrev pub WatermarkIsGreatest : Type 0
WatermarkIsGreatest = (p : List Marked) (n : ℕ) → n ≢ length p
    → All (λ e. watermark_of_entry e ≤ℤ partition_watermark p n) (take n p)
    × ((partition_watermark p n ≡ lowest) ⊎ (list_any (λ e. int_eq (watermark_of_entry e) (partition_watermark p n)) (take n p) ≡ true))

-- so the watermark after one entry more is the greater of the one before and the entry's own
abbrev pub WatermarkGoesOn : Type 0
WatermarkGoesOn = (p : List Marked) (n : ℕ) (d : Marked) → n + 1 < length p → partition_watermark p (n + 1) ≡ int_max (partition_watermark p n) (watermark_of_entry (slice_index_or p n d))

-- what stands in a window that is due at a cut is all that will ever stand there
abbrev pub DueIsSettled : Type 0
DueIsSettled = (plan : PlanData) (sources : List (List (List Marked))) (cut : List (List ℕ)) (q : Pane) → IsOrderly plan.window.time sources → IsCut sources cut
    → is_due plan.window (merged_watermark sources cut) q.start ≡ true
    → plan_aggregate plan (records_before sources (full_cut sources)) q ≡ plan_aggregate plan (records_before sources cut) q

-- what is due at a cut is due at each later one
abbrev pub DueStays : Type 0
DueStays = (w : WindowSpec) (sources : List (List (List Marked))) (b c : List (List ℕ)) (s : ℤ)
    → AllByRecursion (AllByRecursion (λ p. All (λ e. watermark_of_entry e ≤ℤ highest) p)) sources → IsBefore b c → IsCut sources c
    → is_due w (merged_watermark sources b) s ≡ true → is_due w (merged_watermark sources c) s ≡ true

-- what stands in a pane at a cut is what stood there at an earlier one, merged with the records between
abbrev pub CutsMerge : Type 0
CutsMerge = (plan : PlanData) (sources : List (List (List Marked))) (b c : List (List ℕ)) (q : Pane) → IsBefore b c
    → plan_aggregate plan (records_before sources c) q
    ≡ merge plan.window.aggregates (plan_aggregate plan (records_before sources b) q) (plan_aggregate plan (records_between sources b c) q)

-- at the full cut all of the plan's rows are due
abbrev pub EndIsDue : Type 0
EndIsDue = (plan : PlanData) (i : InputData) (q : Pane) → IsPlan plan → IsInput i → BelongsTo plan i
    → due_rows plan i.sources (full_cut i.sources) q ≡ plan_rows plan i.sources q

-- a row that is due at a cut is due at each later one
abbrev pub DueRowsStay : Type 0
DueRowsStay = (plan : PlanData) (i : InputData) (b c : List (List ℕ)) (q : Pane) (row : Row) → IsInput i → IsBefore b c → IsCut i.sources c
    → due_rows plan i.sources b q ≡ Some row → due_rows plan i.sources c q ≡ Some row

-- nothing stands in the windows at the empty cut
abbrev pub NothingAtFirst : Type 0
NothingAtFirst = (plan : PlanData) (sources : List (List (List Marked))) (q : Pane) → snapshot plan sources (empty_cut sources) q ≡ None

-- what is left at a later cut is what was carried there, less what fires
abbrev pub SnapshotGoesOn : Type 0
SnapshotGoesOn = (plan : PlanData) (i : InputData) (b c : List (List ℕ)) (q : Pane) → IsInput i → IsBefore b c → IsCut i.sources c
    → snapshot plan i.sources c q ≡ (if is_due plan.window (merged_watermark i.sources c) q.start then None else carried plan i.sources b c q)

-- where nothing was due at the earlier cut, what is due at the later one is the row of what was carried there
abbrev pub CarriedFires : Type 0
CarriedFires = (plan : PlanData) (i : InputData) (b c : List (List ℕ)) (q : Pane) → IsInput i → IsOrderly plan.window.time i.sources → IsBefore b c → IsCut i.sources c
    → is_due plan.window (merged_watermark i.sources b) q.start ≡ false
    → due_rows plan i.sources c q
    ≡ (if is_due plan.window (merged_watermark i.sources c) q.start then option_and_then (kept_row plan.window q) (carried plan i.sources b c q) else None)
