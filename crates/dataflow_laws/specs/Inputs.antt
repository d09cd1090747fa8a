-- What legs deliver, in the words of an input that was read.
use Rattle.std.specs.Prelude.{◌≡◌, ◌⊎◌, ℕ, ◌<◌, ℤ, List, [], filter, option_to_list, Option, None, if◌then◌else◌}
use Rattle.plan_model.specs.PlanData.{PlanData, IsPlan}
use Rattle.plan_model.specs.declared.spec.Pane.{Pane}
use Rattle.plan_model.specs.declared.spec.Row.{Row}
use Rattle.plan_model.specs.Rows.{AreRowsOf, is_due, row_is_at}
use Rattle.stream_model.specs.declared.entry.Marked.{Marked}
use Rattle.stream_model.specs.InputData.{InputData, IsInput, BelongsTo}
use Rattle.stream_model.specs.Watermarks.{IsOrderly, IsCut, full_cut, merged_watermark}
use Rattle.stream_model.specs.PlanRows.{plan_rows, due_rows, snapshot}
use Rattle.dataflow_model.specs.declared.role.Role.TheVariants.{Source}
use Rattle.dataflow_model.specs.Leg.{Leg}
use Rattle.dataflow_model.specs.AbstractLayout.{AbstractLayout, IsLayout, Deals, partition_read}
use Rattle.dataflow_model.specs.State.{State}
use Rattle.dataflow_model.specs.OneLeg.{IsOneLeg}
use Rattle.dataflow_model.specs.Cuts.{leg_cut}
use Rattle.dataflow_model.specs.Snapshots.{AtOwners}
use Rattle.dataflow_model.specs.Start.{AreOpenings}
use Rattle.dataflow_model.specs.History.{History}
use Rattle.dataflow_laws.specs.Legs.{AreAt, HaveMarks, JobLeg, Legs, leg_rows, cut_left}
use Rattle.dataflow_laws.specs.Admission.{IsAdmittedInput}
use Rattle.input_flow.specs.InputEntries.{input_of, counts_at}

-- whatever layout deals an input, its entries are admitted: they have the plan's width and times in range, and at most
-- 2^40 records
abbrev pub InputIsAdmitted : Type 0
InputIsAdmitted = (p : PlanData) (i : InputData) (leg : Leg) (l : AbstractLayout) → IsInput i → BelongsTo p i → Deals (input_of p i) leg l → IsAdmittedInput p l

-- the rows that are due at the later of two cuts and were not at the earlier
abbrev pub due_between : PlanData → List (List (List Marked)) → List (List ℕ) → List (List ℕ) → Pane → Option Row
due_between p sources b c q = if is_due p.window (merged_watermark sources b) q.start then None else due_rows p sources c q

-- tasks have read the input up to a cut, and what stands in their windows is the snapshot of that cut, each pane at the
-- window task that owns its key
pub record HaveCut (p : PlanData) (i : InputData) (l : AbstractLayout) (states : ℕ → State) (cut : List (List ℕ)) : Type 0 where
  pub offsets : AreAt (input_of p i) l states (counts_at p cut)
  pub windows : AtOwners l (λ u. (states u).windows) (snapshot p i.sources cut)

-- a leg whose tasks open with the snapshot of a cut and come to another delivers the rows that become due between them,
-- each once, and nothing else, and leaves the snapshot of the other with its watermarks, whatever its layout and the
-- order of steps
abbrev pub LegDelivers : Type 0
LegDelivers = (p : PlanData) (i : InputData) (b c : List (List ℕ)) (g : JobLeg p (input_of p i)) → IsInput i → IsOrderly i.time i.sources → BelongsTo p i → IsCut i.sources b → IsCut i.sources c
    → AreOpenings p g.layout g.start → HaveCut p i g.layout g.start b → AreAt (input_of p i) g.layout g.history.end (counts_at p c)
    → AreRowsOf (due_between p i.sources b c) (leg_rows g) × HaveCut p i g.layout g.history.end c × HaveMarks (input_of p i) g.layout g.history.end (counts_at p c)

-- a leg goes to a cut of the input: so far are its partitions to be read
abbrev pub GoesTo : PlanData → InputData → AbstractLayout → List (List ℕ) → Type 0
GoesTo p i l cut = (t k : ℕ) → t < l.before → (l.task t).role ≡ Source → k < (l.task t).inputs → leg_cut l t k ≡ counts_at p cut (partition_read (input_of p i) l t k)

-- at every moment of a leg that opens with the snapshot of a cut and goes to another, its sink has of each pane
-- nothing, or just the row that becomes due between them
abbrev pub SoFarDelivers : Type 0
SoFarDelivers = (p : PlanData) (i : InputData) (b c : List (List ℕ)) (leg : Leg) (l : AbstractLayout) (start : ℕ → State) → IsInput i → IsOrderly i.time i.sources → BelongsTo p i → IsCut i.sources b → IsCut i.sources c
    → IsLayout l → Deals (input_of p i) leg l → IsOneLeg l start → AreOpenings p l start → HaveCut p i l start b → GoesTo p i l c → (h : History p l start) → (q : Pane)
    → (filter (row_is_at q) (h.end l.sink).rows ≡ []) ⊎ (filter (row_is_at q) (h.end l.sink).rows ≡ option_to_list (due_between p i.sources b c q))

-- a leg came to a cut of the input
abbrev pub ComesTo : (p : PlanData) (i : InputData) → JobLeg p (input_of p i) → List (List ℕ) → Type 0
ComesTo p i g cut = (q : ℕ) → q < (input_of p i).partitions → cut_left g q ≡ counts_at p cut q

-- legs of which the last came to a cut deliver together the plan's rows that are due there, each once, and nothing else
abbrev pub LegsDeliverDue : Type 0
LegsDeliverDue = (p : PlanData) (i : InputData) (g : JobLeg p (input_of p i)) (cut : List (List ℕ)) (w : ℤ) (rows : List Row) → IsInput i → IsOrderly i.time i.sources → BelongsTo p i → IsCut i.sources cut
    → ComesTo p i g cut → Legs p (input_of p i) g w rows → AreRowsOf (due_rows p i.sources cut) rows

-- and where it came to the end of each partition, all of the plan's rows
abbrev pub LegsDeliverAll : Type 0
LegsDeliverAll = (p : PlanData) (i : InputData) (g : JobLeg p (input_of p i)) (w : ℤ) (rows : List Row) → IsPlan p → IsInput i → IsOrderly i.time i.sources → BelongsTo p i
    → ComesTo p i g (full_cut i.sources) → Legs p (input_of p i) g w rows → AreRowsOf (plan_rows p i.sources) rows
