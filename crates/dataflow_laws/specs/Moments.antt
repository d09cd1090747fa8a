-- What is so at every moment of a leg on the compiled layout of a plan, in the words of its input.
use Rattle.std.specs.Prelude.{◌≡◌, ℕ, ◌<◌, ◌≤◌, ◌≤ℤ◌, ◌==◌, List, [], true, filter, option_to_list, None, if◌then◌else◌}
use Rattle.plan_model.specs.declared.spec.Pane.{Pane}
use Rattle.plan_model.specs.PlanData.{PlanData, IsPlan}
use Rattle.plan_model.specs.Rows.{is_due, row_is_at}
use Rattle.stream_model.specs.InputData.{InputData, IsInput, BelongsTo}
use Rattle.stream_model.specs.Watermarks.{IsOrderly, IsCut, merged_watermark}
use Rattle.stream_model.specs.PlanRows.{plan_rows}
use Rattle.dataflow_model.specs.Leg.{Until}
use Rattle.dataflow_model.specs.State.{State}
use Rattle.dataflow_model.specs.Runs.{given}
use Rattle.dataflow_model.specs.Start.{IsLegStart}
use Rattle.dataflow_model.specs.History.{History, IsComplete}
use Rattle.layout_rules.specs.declared.stage.Stage.{Stage}
use Rattle.layout_rules.specs.Rules.{IsCompiled}
use Rattle.layout_rules.specs.Scale.{ScaleData, IsScale}
use Rattle.input_flow.specs.InputEntries.{input_of, counts_at}
use Rattle.dataflow_laws.specs.Legs.{AreAt, HaveMarks}
use Rattle.dataflow_laws.specs.Inputs.{HaveCut}
use Rattle.dataflow_laws.specs.Compiled.{layout_to}
use Rattle.dataflow_laws.specs.Edges.{KeepsWatermark, task_watermark}
use Rattle.dataflow_laws.specs.Firing.{rows_given}

-- whatever a leg begins with, the tasks that read have come to a cut of the input
abbrev pub CompiledLegIsAtACut : Type 0
CompiledLegIsAtACut = (p : PlanData) (c : ScaleData) (i : InputData) (n : ℕ) (saves : List (List (List ℕ))) (until : Until) (stages : List Stage) (start : ℕ → State)
    → IsPlan p → IsScale p c → IsCompiled p c stages → BelongsTo p i
    → let l = layout_to p i n saves until stages in IsLegStart p l start → (h : History p l start) → (cut : List (List ℕ)) × IsCut i.sources cut × AreAt (input_of p i) l h.end (counts_at p cut)

-- at the cut that they have come to, sources have the watermarks that the partitions have there, and each ring to a
-- task before the sink keeps its sender's watermark
abbrev pub CompiledEdgesKeepWatermarks : Type 0
CompiledEdgesKeepWatermarks = (p : PlanData) (c : ScaleData) (i : InputData) (n : ℕ) (saves : List (List (List ℕ))) (until : Until) (stages : List Stage) (start : ℕ → State)
    → IsPlan p → IsScale p c → IsCompiled p c stages → IsInput i → IsOrderly i.time i.sources → BelongsTo p i
    → let l = layout_to p i n saves until stages in IsLegStart p l start → (h : History p l start) → (cut : List (List ℕ)) → AreAt (input_of p i) l h.end (counts_at p cut)
    → HaveMarks (input_of p i) l h.end (counts_at p cut) × ((s t : ℕ) → t < l.sink → l.ring s t ≡ true → KeepsWatermark p l h s t)

-- a leg opens with the snapshot of a cut: at the cut that its tasks have come to, the watermark of each window task is
-- at most the cut's, and is it once all tasks are done
abbrev pub CompiledWindowsHaveTheWatermark : Type 0
CompiledWindowsHaveTheWatermark = (p : PlanData) (c : ScaleData) (i : InputData) (n : ℕ) (b : List (List ℕ)) (saves : List (List (List ℕ))) (until : Until) (stages : List Stage) (start : ℕ → State)
    → IsPlan p → IsScale p c → IsCompiled p c stages → IsInput i → IsOrderly i.time i.sources → BelongsTo p i → IsCut i.sources b
    → let l = layout_to p i n saves until stages in IsLegStart p l start → HaveCut p i l start b → (h : History p l start) → (cut : List (List ℕ)) → IsCut i.sources cut → AreAt (input_of p i) l h.end (counts_at p cut)
    → (u : ℕ) → l.before ≤ u → u < l.sink → (task_watermark (h.end u) ≤ℤ merged_watermark i.sources cut) × (IsComplete h → task_watermark (h.end u) ≡ merged_watermark i.sources cut)

-- each window task has given, of each pane whose key it owns and that was not due where the leg began: nothing before
-- its watermark has come to the window's end, and from then on the plan's row of the pane on the whole input, once; and
-- of any other pane nothing
abbrev pub CompiledWindowsFireOnce : Type 0
CompiledWindowsFireOnce = (p : PlanData) (c : ScaleData) (i : InputData) (n : ℕ) (b : List (List ℕ)) (saves : List (List (List ℕ))) (until : Until) (stages : List Stage) (start : ℕ → State)
    → IsPlan p → IsScale p c → IsCompiled p c stages → IsInput i → IsOrderly i.time i.sources → BelongsTo p i → IsCut i.sources b
    → let l = layout_to p i n saves until stages in IsLegStart p l start → HaveCut p i l start b → (h : History p l start)
    → (u : ℕ) → l.before ≤ u → u < l.sink → (q : Pane) → filter (row_is_at q) (rows_given (given 0 (h.steps u) (h.end u)))
    ≡ (if l.owner q.key == u then option_to_list (if is_due p.window (merged_watermark i.sources b) q.start then None else if is_due p.window (task_watermark (h.end u)) q.start then plan_rows p i.sources q else None) else [])
