-- What stands in the windows of a leg, whatever it began with.
use Rattle.std.specs.Prelude.{◌≡◌, ℕ, ◌<◌, ◌≤◌, List, [], length, slice_index_or, Some}
use Rattle.std.specs.FinMap.{get}
use Rattle.plan_model.specs.declared.spec.Pane.{Pane}
use Rattle.plan_model.specs.Aggregates.{Aggregated}
use Rattle.plan_model.specs.PlanData.{PlanData, IsPlan}
use Rattle.stream_model.specs.InputData.{InputData, IsInput, BelongsTo}
use Rattle.stream_model.specs.Watermarks.{IsOrderly, IsCut, records_before}
use Rattle.dataflow_model.specs.Leg.{Until}
use Rattle.dataflow_model.specs.Leg.Until.{TillAsked}
use Rattle.dataflow_model.specs.AbstractLayout.{AbstractLayout}
use Rattle.dataflow_model.specs.State.{State}
use Rattle.dataflow_model.specs.Start.{IsLegStart}
use Rattle.dataflow_model.specs.History.{History, IsComplete}
use Rattle.layout_rules.specs.declared.stage.Stage.{Stage}
use Rattle.layout_rules.specs.Rules.{IsCompiled}
use Rattle.layout_rules.specs.Scale.{ScaleData, IsScale}
use Rattle.input_flow.specs.InputEntries.{input_of, counts_at}
use Rattle.dataflow_laws.specs.Legs.{AreAt, HaveMarks}
use Rattle.dataflow_laws.specs.Compiled.{cut_to, layout_to}
use Rattle.dataflow_laws.specs.Kept.{kept_state, HaveAligned}

-- a window task has panes of the keys that it owns alone, of at most n records each
abbrev pub HaveOwnPanes : AbstractLayout → (ℕ → State) → ℕ → Type 0
HaveOwnPanes l states n = (u : ℕ) → l.before ≤ u → u < l.sink → (q : Pane) (a : Aggregated) → get (states u).windows q ≡ Some a → (l.owner q.key ≡ u) × (a.count ≤ n)

-- a leg from a cut, in whose windows each task has its own panes, of no more records than stand before the cut: when
-- all tasks are done this is so at the cut that it was to come to, where its sources are, with the watermarks there
abbrev pub CompiledLegKeepsPanes : Type 0
CompiledLegKeepsPanes = (p : PlanData) (c : ScaleData) (i : InputData) (n : ℕ) (b : List (List ℕ)) (saves : List (List (List ℕ))) (until : Until) (stages : List Stage) (start : ℕ → State)
    → IsPlan p → IsScale p c → IsCompiled p c stages → IsInput i → IsOrderly i.time i.sources → BelongsTo p i → IsCut i.sources b → IsCut i.sources (cut_to i until) → (until ≡ TillAsked → ⊥)
    → let l = layout_to p i n saves until stages in IsLegStart p l start → AreAt (input_of p i) l start (counts_at p b) → HaveOwnPanes l start (length (records_before i.sources b)) → (h : History p l start) → IsComplete h
    → AreAt (input_of p i) l h.end (counts_at p (cut_to i until)) × HaveMarks (input_of p i) l h.end (counts_at p (cut_to i until)) × HaveOwnPanes l h.end (length (records_before i.sources (cut_to i until)))

-- however it is to end: at the cut that its tasks have come to when all are done, each window task has its own panes,
-- of no more records than stand before that cut, and each source the watermarks there
abbrev pub CompiledLegKeepsPanesAt : Type 0
CompiledLegKeepsPanesAt = (p : PlanData) (c : ScaleData) (i : InputData) (n : ℕ) (b : List (List ℕ)) (saves : List (List (List ℕ))) (until : Until) (stages : List Stage) (start : ℕ → State)
    → IsPlan p → IsScale p c → IsCompiled p c stages → IsInput i → IsOrderly i.time i.sources → BelongsTo p i → IsCut i.sources b
    → let l = layout_to p i n saves until stages in IsLegStart p l start → AreAt (input_of p i) l start (counts_at p b) → HaveOwnPanes l start (length (records_before i.sources b)) → (h : History p l start) → IsComplete h
    → (cut : List (List ℕ)) → IsCut i.sources cut → AreAt (input_of p i) l h.end (counts_at p cut) → HaveMarks (input_of p i) l h.end (counts_at p cut) × HaveOwnPanes l h.end (length (records_before i.sources cut))

-- once every task has aligned on the barrier of savepoint m, at whatever moment, what window tasks have kept there are
-- their own panes, of no more records than stand before the savepoint's cut
abbrev pub CompiledSavepointKeepsPanes : Type 0
CompiledSavepointKeepsPanes = (p : PlanData) (c : ScaleData) (i : InputData) (n : ℕ) (b : List (List ℕ)) (saves : List (List (List ℕ))) (until : Until) (stages : List Stage) (start : ℕ → State) (m : ℕ)
    → IsPlan p → IsScale p c → IsCompiled p c stages → IsInput i → IsOrderly i.time i.sources → BelongsTo p i → IsCut i.sources b → m < length saves → IsCut i.sources (slice_index_or saves m [])
    → let l = layout_to p i n saves until stages in IsLegStart p l start → AreAt (input_of p i) l start (counts_at p b) → HaveOwnPanes l start (length (records_before i.sources b)) → (h : History p l start) → HaveAligned l m h.end
    → HaveOwnPanes l (λ t. kept_state m (h.end t)) (length (records_before i.sources (slice_index_or saves m [])))
