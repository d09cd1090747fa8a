-- The legs of a job, one after another, each with a layout of its own.
use Rattle.std.specs.Prelude.{◌≡◌, ℕ, ◌<◌, ◌≤◌, ℤ, List, ◌++◌, slice_index_or, None, if◌then◌else◌}
use Rattle.std.specs.FinMap.{get}
use Rattle.plan_model.specs.declared.spec.Pane.{Pane}
use Rattle.plan_model.specs.declared.spec.Row.{Row}
use Rattle.plan_model.specs.PlanData.{PlanData}
use Rattle.plan_model.specs.Rows.{AreRowsOf, is_due}
use Rattle.dataflow_model.specs.declared.role.Role.TheVariants.{Source}
use Rattle.dataflow_model.specs.Leg.{Leg}
use Rattle.dataflow_model.specs.AbstractLayout.{AbstractLayout, IsLayout, AbstractInput, Deals, reader_of, place_in_reader, partition_read}
use Rattle.dataflow_model.specs.State.{State}
use Rattle.dataflow_model.specs.Snapshots.{AtOwners}
use Rattle.dataflow_model.specs.Opening.{IsUntouched}
use Rattle.dataflow_model.specs.Start.{AreOpenings}
use Rattle.dataflow_model.specs.OneLeg.{IsOneLeg}
use Rattle.dataflow_model.specs.Cuts.{cut_of}
use Rattle.dataflow_model.specs.InputCuts.{IsOrderlyInput, IsWatermarkAt, snapshot_at, due_row}
use Rattle.dataflow_model.specs.History.{History, IsComplete}

-- tasks that read partitions have come to the cut of the input
abbrev pub AreAt : AbstractInput → AbstractLayout → (ℕ → State) → (ℕ → ℕ) → Type 0
AreAt i l states cut = (t k : ℕ) → t < l.before → (l.task t).role ≡ Source → k < (l.task t).inputs → cut_of states t k ≡ cut (partition_read i l t k)

-- window tasks have the snapshot of a cut whose watermark is w, each in the panes whose keys it owns
abbrev pub HaveSnapshot : PlanData → AbstractInput → AbstractLayout → (ℕ → State) → (ℕ → ℕ) → ℤ → Type 0
HaveSnapshot p i l states cut w = AtOwners l (λ u. (states u).windows) (snapshot_at p i cut w)

-- sources have the watermarks that partitions have at the cut of the input
abbrev pub HaveMarks : AbstractInput → AbstractLayout → (ℕ → State) → (ℕ → ℕ) → Type 0
HaveMarks i l states cut = (t k : ℕ) (d : ℤ) → t < l.before → (l.task t).role ≡ Source → k < (l.task t).inputs → slice_index_or (states t).inputs.marks k d ≡ i.watermark (partition_read i l t k) (cut (partition_read i l t k))

-- tasks leave all that a snapshot of a cut is made of
pub record LeaveSnapshot (p : PlanData) (i : AbstractInput) (l : AbstractLayout) (states : ℕ → State) (cut : ℕ → ℕ) (w : ℤ) : Type 0 where
  pub offsets : AreAt i l states cut
  pub marks : HaveMarks i l states cut
  pub windows : HaveSnapshot p i l states cut w

-- one leg of a job: a layout that deals the input, the states that its tasks begin in, and a complete history
pub record JobLeg (p : PlanData) (i : AbstractInput) : Type 0 where
  pub leg : Leg
  pub layout : AbstractLayout
  pub is_layout : IsLayout layout
  pub deals : Deals i leg layout
  pub start : ℕ → State
  pub is_leg : IsOneLeg layout start
  pub history : History p layout start
  pub complete : IsComplete history

-- it goes from one cut of the input, whose watermark is w, to another: its tasks open with the snapshot of the first,
-- and it comes to the second
pub record IsBetween (p : PlanData) (i : AbstractInput) (g : JobLeg p i) (from : ℕ → ℕ) (w : ℤ) (to : ℕ → ℕ) : Type 0 where
  pub opens : AreOpenings p g.layout g.start
  pub begins : AreAt i g.layout g.start from
  pub restored : HaveSnapshot p i g.layout g.start from w
  pub comes : AreAt i g.layout g.history.end to

-- the rows that a leg's sink has in the end
abbrev pub leg_rows : {p : PlanData} {i : AbstractInput} → JobLeg p i → List Row
leg_rows g = (g.history.end g.layout.sink).rows

-- how many entries of each partition the task that reads it had read when the leg ended
abbrev pub cut_left : {p : PlanData} {i : AbstractInput} → JobLeg p i → ℕ → ℕ
cut_left {i = i} g q = cut_of g.history.end (reader_of i g.layout q) (place_in_reader i g.layout q)

-- no entry was read, and all windows are empty
pub record HaveNothing (i : AbstractInput) (l : AbstractLayout) (states : ℕ → State) : Type 0 where
  pub offsets : AreAt i l states (λ q. 0)
  pub windows : (u : ℕ) → l.before ≤ u → u < l.sink → (q : Pane) → get (states u).windows q ≡ None

-- a leg that begins with nothing
pub record BeginsAnew (p : PlanData) (i : AbstractInput) (g : JobLeg p i) : Type 0 where
  pub opens : AreOpenings p g.layout g.start
  pub nothing : HaveNothing i g.layout g.start

-- a leg that goes on with what another left, and with nothing else: of each partition how far it was read and its
-- watermark, as the task had them that read it, and what stood in each pane at the window task that owned its key
pub record GoesOn (p : PlanData) (i : AbstractInput) (g next : JobLeg p i) : Type 0 where
  pub untouched : (t : ℕ) → t ≤ next.layout.sink → IsUntouched (next.layout.task t).role (next.layout.task t) (next.start t)
  pub offsets : AreAt i next.layout next.start (cut_left g)
  pub marks : (t k : ℕ) (d : ℤ) → t < next.layout.before → (next.layout.task t).role ≡ Source → k < (next.layout.task t).inputs → let q = partition_read i next.layout t k in
      slice_index_or (next.start t).inputs.marks k d ≡ slice_index_or (g.history.end (reader_of i g.layout q)).inputs.marks (place_in_reader i g.layout q) d
  pub windows : AtOwners next.layout (λ u. (next.start u).windows) (λ q. get (g.history.end (g.layout.owner q.key)).windows q)

-- one leg or more, the first from nothing and each other from what the one before left: the last of them, the watermark
-- of the cut that it came to, and the rows that all deliver together
pub data Legs (p : PlanData) (i : AbstractInput) : JobLeg p i → ℤ → List Row → Type 0 where
  first : {w v : ℤ} (g : JobLeg p i) → BeginsAnew p i g → IsWatermarkAt i (λ q. 0) w → IsWatermarkAt i (cut_left g) v → Legs p i g v (leg_rows g)
  next : {g : JobLeg p i} {w v : ℤ} {rows : List Row} → Legs p i g w rows → (g' : JobLeg p i) → GoesOn p i g g' → IsWatermarkAt i (cut_left g') v → Legs p i g' v (rows ++ leg_rows g')

-- a leg delivers the plan's row of each pane that is due at its end and was not at its start, once, and leaves the
-- snapshot of the cut that it came to
abbrev pub LegBetweenIsExact : Type 0
LegBetweenIsExact = (p : PlanData) (i : AbstractInput) (from to : ℕ → ℕ) (w v : ℤ) → IsOrderlyInput p i → IsWatermarkAt i from w → (g : JobLeg p i) → IsBetween p i g from w to → IsWatermarkAt i to v
    → AreRowsOf (λ q. if is_due p.window w q.start then None else due_row p i v q) (leg_rows g) × LeaveSnapshot p i g.layout g.history.end to v

-- whatever the layouts, the cuts and the order of steps, legs deliver together the plan's row of each pane that is due,
-- once, and nothing else, and leave the snapshot
abbrev pub LegsAreExact : Type 0
LegsAreExact = (p : PlanData) (i : AbstractInput) (g : JobLeg p i) (v : ℤ) (rows : List Row) → IsOrderlyInput p i → Legs p i g v rows → AreRowsOf (due_row p i v) rows × LeaveSnapshot p i g.layout g.history.end (cut_left g) v
