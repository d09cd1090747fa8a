-- The laws that tie an input to what layouts and legs have of it.
use Rattle.std.specs.Prelude.{◌≡◌, ℕ, List}
use Rattle.plan_model.specs.declared.spec.Pane.{Pane}
use Rattle.plan_model.specs.PlanData.{PlanData, IsPlan}
use Rattle.stream_model.specs.InputData.{InputData, IsInput, BelongsTo}
use Rattle.stream_model.specs.Watermarks.{IsOrderly, IsCut, full_cut, merged_watermark, records_before}
use Rattle.stream_model.specs.PlanRows.{passing, plan_rows, due_rows, snapshot}
use Rattle.dataflow_model.specs.InputCuts.{IsOrderlyInput, IsWatermarkAt, records_up_to, snapshot_at, due_row}
use Rattle.input_flow.specs.InputEntries.{input_of, counts_at}

-- an input whose sources are orderly has orderly partitions
abbrev pub InputIsOrderly : Type 0
InputIsOrderly = (p : PlanData) (i : InputData) → IsInput i → IsOrderly i.time i.sources → BelongsTo p i → IsOrderlyInput p (input_of p i)

-- the records up to a cut are those before it that pass the filters
abbrev pub RecordsAtCut : Type 0
RecordsAtCut = (p : PlanData) (i : InputData) (cut : List (List ℕ)) → BelongsTo p i → IsCut i.sources cut → records_up_to (input_of p i) (counts_at p cut) ≡ passing p (records_before i.sources cut)

-- the watermark of a cut is the merged watermark there
abbrev pub WatermarkAtCut : Type 0
WatermarkAtCut = (p : PlanData) (i : InputData) (cut : List (List ℕ)) → BelongsTo p i → IsCut i.sources cut → IsWatermarkAt (input_of p i) (counts_at p cut) (merged_watermark i.sources cut)

-- the snapshot of a cut is what is left in the windows there
abbrev pub SnapshotAtCut : Type 0
SnapshotAtCut = (p : PlanData) (i : InputData) (cut : List (List ℕ)) (q : Pane) → BelongsTo p i → IsCut i.sources cut
    → snapshot_at p (input_of p i) (counts_at p cut) (merged_watermark i.sources cut) q ≡ snapshot p i.sources cut q

-- the row that is due by a cut's watermark is the one that is due at the cut
abbrev pub DueAtCut : Type 0
DueAtCut = (p : PlanData) (i : InputData) (cut : List (List ℕ)) (q : Pane) → BelongsTo p i → due_row p (input_of p i) (merged_watermark i.sources cut) q ≡ due_rows p i.sources cut q

-- and at the full cut it is the plan's row
abbrev pub DueAtEnd : Type 0
DueAtEnd = (p : PlanData) (i : InputData) (q : Pane) → IsPlan p → IsInput i → BelongsTo p i → due_row p (input_of p i) (merged_watermark i.sources (full_cut i.sources)) q ≡ plan_rows p i.sources q
