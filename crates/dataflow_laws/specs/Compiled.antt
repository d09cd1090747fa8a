-- What a leg delivers that runs on the compiled layout of a plan at a scale.
use Rattle.std.specs.Prelude.{◌≡◌, ◌⊎◌, ℕ, List, [], filter, option_to_list}
use Rattle.plan_model.specs.PlanData.{PlanData, IsPlan}
use Rattle.plan_model.specs.declared.spec.Pane.{Pane}
use Rattle.plan_model.specs.Rows.{AreRowsOf, row_is_at}
use Rattle.stream_model.specs.InputData.{InputData, IsInput, BelongsTo}
use Rattle.stream_model.specs.Watermarks.{IsOrderly, IsCut, full_cut}
use Rattle.stream_model.specs.PlanRows.{plan_rows}
use Rattle.dataflow_model.specs.Leg.{Until, leg_of}
use Rattle.dataflow_model.specs.Leg.Until.{ToEnd, ToCut, TillAsked}
use Rattle.dataflow_model.specs.AbstractLayout.{AbstractLayout}
use Rattle.dataflow_model.specs.State.{State}
use Rattle.dataflow_model.specs.Start.{IsLegStart}
use Rattle.dataflow_model.specs.History.{History, IsComplete}
use Rattle.layout_rules.specs.declared.stage.Stage.{Stage}
use Rattle.layout_rules.specs.Rules.{IsCompiled, window_of}
use Rattle.layout_rules.specs.Scale.{ScaleData, IsScale}
use Rattle.layout_rules.specs.Layouts.{abstract_layout}
use Rattle.input_flow.specs.InputEntries.{entries_of, input_of, counts_at}
use Rattle.dataflow_laws.specs.Legs.{AreAt, HaveMarks, HaveNothing}
use Rattle.dataflow_laws.specs.Inputs.{due_between, HaveCut}

-- the cut that a leg comes to, where no stop is asked for
abbrev pub cut_to : InputData → Until → List (List ℕ)
cut_to i ToEnd = full_cut i.sources
cut_to i (ToCut cut) = cut
cut_to i TillAsked = full_cut i.sources

-- the layout of stages in a leg from savepoint n, or from nothing where n is 0, with savepoints at these cuts on the
-- way
abbrev pub layout_to : PlanData → InputData → ℕ → List (List (List ℕ)) → Until → List Stage → AbstractLayout
layout_to p i n saves until stages = abstract_layout p (entries_of i) (leg_of n saves until (entries_of i).size) stages (window_of stages)

-- a leg that opens with the snapshot of a cut, whose tasks are all done, has delivered just the rows that became due,
-- each once, and leaves the snapshot of the cut that it was to come to
abbrev pub CompiledLegDelivers : Type 0
CompiledLegDelivers = (p : PlanData) (c : ScaleData) (i : InputData) (n : ℕ) (b : List (List ℕ)) (saves : List (List (List ℕ))) (until : Until) (stages : List Stage) (start : ℕ → State)
    → IsPlan p → IsScale p c → IsCompiled p c stages → IsInput i → IsOrderly i.time i.sources → BelongsTo p i → IsCut i.sources b → IsCut i.sources (cut_to i until) → (until ≡ TillAsked → ⊥)
    → let l = layout_to p i n saves until stages in IsLegStart p l start → HaveCut p i l start b → (h : History p l start) → IsComplete h
    → AreRowsOf (due_between p i.sources b (cut_to i until)) (h.end l.sink).rows × HaveCut p i l h.end (cut_to i until) × HaveMarks (input_of p i) l h.end (counts_at p (cut_to i until))

-- however it is to end: at the cut that its tasks have come to, it has delivered just the rows that became due, each
-- once, and leaves the snapshot
abbrev pub CompiledLegDeliversAt : Type 0
CompiledLegDeliversAt = (p : PlanData) (c : ScaleData) (i : InputData) (n : ℕ) (b : List (List ℕ)) (saves : List (List (List ℕ))) (until : Until) (stages : List Stage) (start : ℕ → State)
    → IsPlan p → IsScale p c → IsCompiled p c stages → IsInput i → IsOrderly i.time i.sources → BelongsTo p i → IsCut i.sources b
    → let l = layout_to p i n saves until stages in IsLegStart p l start → HaveCut p i l start b → (h : History p l start) → IsComplete h
    → (cut : List (List ℕ)) → IsCut i.sources cut → AreAt (input_of p i) l h.end (counts_at p cut)
    → AreRowsOf (due_between p i.sources b cut) (h.end l.sink).rows × HaveCut p i l h.end cut × HaveMarks (input_of p i) l h.end (counts_at p cut)

-- and one that starts from nothing and runs to the end all rows of the plan
abbrev pub CompiledLegDeliversAll : Type 0
CompiledLegDeliversAll = (p : PlanData) (c : ScaleData) (i : InputData) (saves : List (List (List ℕ))) (stages : List Stage) (start : ℕ → State)
    → IsPlan p → IsScale p c → IsCompiled p c stages → IsInput i → IsOrderly i.time i.sources → BelongsTo p i
    → let l = layout_to p i 0 saves ToEnd stages in IsLegStart p l start → HaveNothing (input_of p i) l start → (h : History p l start) → IsComplete h → AreRowsOf (plan_rows p i.sources) (h.end l.sink).rows

-- at every moment of a leg that opens with the snapshot of a cut, its sink has of each pane nothing, or just the row
-- that becomes due on its way
abbrev pub CompiledLegSoFar : Type 0
CompiledLegSoFar = (p : PlanData) (c : ScaleData) (i : InputData) (n : ℕ) (b : List (List ℕ)) (saves : List (List (List ℕ))) (until : Until) (stages : List Stage) (start : ℕ → State)
    → IsPlan p → IsScale p c → IsCompiled p c stages → IsInput i → IsOrderly i.time i.sources → BelongsTo p i → IsCut i.sources b → IsCut i.sources (cut_to i until)
    → let l = layout_to p i n saves until stages in IsLegStart p l start → HaveCut p i l start b → (h : History p l start) → (q : Pane)
    → (filter (row_is_at q) (h.end l.sink).rows ≡ []) ⊎ (filter (row_is_at q) (h.end l.sink).rows ≡ option_to_list (due_between p i.sources b (cut_to i until) q))
