-- How a leg has ended: whether it stopped, and at which cut.
use Rattle.std.specs.Prelude.{◌≡◌, ℕ, ◌<◌, ◌≤◌, List, nat_lt, Bool, true, false, length}
use Rattle.plan_model.specs.PlanData.{PlanData, IsPlan}
use Rattle.stream_model.specs.InputData.{InputData, IsInput, BelongsTo}
use Rattle.stream_model.specs.Watermarks.{IsOrderly, IsCut, IsBefore, full_cut}
use Rattle.dataflow_model.specs.declared.role.Role.TheVariants.{Source}
use Rattle.dataflow_model.specs.declared.ending.Ending.TheVariants.{AtCut}
use Rattle.dataflow_model.specs.Ending.{may_stop}
use Rattle.dataflow_model.specs.Leg.{Until}
use Rattle.dataflow_model.specs.Leg.Until.{ToEnd, ToCut}
use Rattle.dataflow_model.specs.AbstractLayout.{AbstractLayout, IsLayout}
use Rattle.dataflow_model.specs.State.{State}
use Rattle.dataflow_model.specs.Cuts.{cut_of, leg_cut}
use Rattle.dataflow_model.specs.Start.{IsLegStart}
use Rattle.dataflow_model.specs.History.{History, IsComplete}
use Rattle.layout_rules.specs.declared.stage.Stage.{Stage}
use Rattle.layout_rules.specs.Rules.{IsCompiled}
use Rattle.layout_rules.specs.Scale.{ScaleData, IsScale}
use Rattle.input_flow.specs.InputEntries.{input_of, counts_at}
use Rattle.dataflow_laws.specs.Admission.{IsAdmittedInput}
use Rattle.dataflow_laws.specs.Legs.{AreAt}
use Rattle.dataflow_laws.specs.Compiled.{cut_to, layout_to}
use Rattle.dataflow_laws.specs.Kept.{HaveAligned}

-- all sources have read as far as the leg goes, and it was not to end at a cut
pub record HaveClosed (l : AbstractLayout) (states : ℕ → State) : Type 0 where
  pub ending : (l.task l.sink).ending ≡ AtCut → ⊥
  pub read : (t q : ℕ) → t < l.before → (l.task t).role ≡ Source → q < (l.task t).inputs → cut_of states t q ≡ leg_cut l t q

-- once all tasks are done, the sink tells whether the leg has stopped: where it has passed the barrier of a stop, there
-- may be one, and where it has not, all sources have come to their ends
abbrev pub SinkTellsStops : Type 0
SinkTellsStops = (p : PlanData) (l : AbstractLayout) (start : ℕ → State) → IsLayout l → IsLegStart p l start → (h : History p l start) → IsComplete h
    → ((l.task l.sink).saves < (h.end l.sink).next → may_stop (l.task l.sink).ending ≡ true) × ((h.end l.sink).next ≤ (l.task l.sink).saves → HaveClosed l h.end)

-- and once all tasks have aligned on the barrier of the stop, which is the leg's last, all are done
abbrev pub StoppedIsComplete : Type 0
StoppedIsComplete = (p : PlanData) (l : AbstractLayout) (start : ℕ → State) → IsLayout l → IsLegStart p l start → IsAdmittedInput p l → (h : History p l start) → HaveAligned l (l.task l.sink).saves h.end → IsComplete h

-- a leg over an input, from a cut, that was to go so far, has come to another cut, which is no earlier, and has stopped
-- there or not: where it has not it is at the end of the input, as it is if it was to go there; and where it was to go
-- to a cut it has stopped at that one
pub record ComesTo (i : InputData) (begin : List (List ℕ)) (until : Until) (stopped : Bool) (cut : List (List ℕ)) : Type 0 where
  pub is_cut : IsCut i.sources cut
  pub no_earlier : IsBefore begin cut
  pub ended : stopped ≡ false → cut ≡ full_cut i.sources
  pub to_end : until ≡ ToEnd → stopped ≡ false
  pub to_cut : (end : List (List ℕ)) → until ≡ ToCut end → (stopped ≡ true) × (cut ≡ end)

-- so has each leg on the compiled layout of a plan at a scale whose tasks are all done: it has stopped where the sink
-- has passed one barrier more than the savepoints on the way have
abbrev pub CompiledLegComes : Type 0
CompiledLegComes = (p : PlanData) (c : ScaleData) (i : InputData) (n : ℕ) (b : List (List ℕ)) (saves : List (List (List ℕ))) (until : Until) (stages : List Stage) (start : ℕ → State)
    → IsPlan p → IsScale p c → IsCompiled p c stages → IsInput i → IsOrderly i.time i.sources → BelongsTo p i → IsCut i.sources b → IsCut i.sources (cut_to i until)
    → let l = layout_to p i n saves until stages in IsLegStart p l start → AreAt (input_of p i) l start (counts_at p b) → (h : History p l start) → IsComplete h
    → (cut : List (List ℕ)) × ComesTo i b until (nat_lt (length saves) (h.end l.sink).next) cut × AreAt (input_of p i) l h.end (counts_at p cut)
