-- The laws of histories.
use Rattle.std.specs.Prelude.{◌≡◌, ◌⊎◌, ℕ, ◌<◌, ℤ, [], filter, option_to_list}
use Rattle.plan_model.specs.declared.spec.Pane.{Pane}
use Rattle.plan_model.specs.PlanData.{PlanData}
use Rattle.plan_model.specs.Rows.{AreRowsOf, row_is_at}
use Rattle.dataflow_model.specs.AbstractLayout.{AbstractLayout, IsLayout}
use Rattle.dataflow_model.specs.State.{State}
use Rattle.dataflow_model.specs.OneLeg.{IsOneLeg}
use Rattle.dataflow_model.specs.Cuts.{AreOrderlySources, IsMergedWatermark, cut_of, leg_cut, aggregate_until, snapshot_until, row_between}
use Rattle.dataflow_model.specs.Snapshots.{HaveWatermarks, AtOwners}
use Rattle.dataflow_model.specs.Start.{AreOpenings, IsStart}
use Rattle.dataflow_model.specs.Flow.{Flow, IsDrained}
use Rattle.dataflow_model.specs.History.{History, IsComplete}
use Rattle.dataflow_model.specs.declared.role.Role.TheVariants.{Source}
use Rattle.dataflow_model.specs.declared.ending.Ending.TheVariants.{Asked}

-- tasks end with just what is due at a cut whose watermark is v: the sink has the row of each pane that is due by v and
-- was not by w, once, sources have the watermarks of their partitions at the cut, and each window task has the snapshot
-- in the panes whose keys it owns
pub record IsExact (p : PlanData) (l : AbstractLayout) (w v : ℤ) (cut : ℕ → ℕ → ℕ) (end : ℕ → State) : Type 0 where
  pub rows : AreRowsOf (λ q. row_between p w v q (aggregate_until p l cut q)) (end l.sink).rows
  pub marks : HaveWatermarks l (λ t. (end t).inputs.marks) cut
  pub windows : AtOwners l (λ u. (end u).windows) (snapshot_until p l cut v)

-- a drained flow of a leg that begins with a snapshot ends with just what is due at the cut that it came to
abbrev pub DrainedIsExact : Type 0
DrainedIsExact = (p : PlanData) (l : AbstractLayout) (start : ℕ → State) (w v : ℤ) → IsLayout l → AreOrderlySources p l → IsOneLeg l start → IsStart p l start w
    → (f : Flow p l start) → IsDrained f → IsMergedWatermark l (cut_of f.end) v → IsExact p l w v (cut_of f.end) f.end

-- and so does every complete history of such a leg, in whatever order its tasks made their steps
abbrev pub LegIsExact : Type 0
LegIsExact = (p : PlanData) (l : AbstractLayout) (start : ℕ → State) (w v : ℤ) → IsLayout l → AreOrderlySources p l → IsOneLeg l start → IsStart p l start w
    → (h : History p l start) → IsComplete h → IsMergedWatermark l (cut_of h.end) v → IsExact p l w v (cut_of h.end) h.end

-- where no stop may be asked for, a complete history has read each partition as far as the leg goes
abbrev pub LegReachesItsCut : Type 0
LegReachesItsCut = (p : PlanData) (l : AbstractLayout) (start : ℕ → State) → IsLayout l → IsOneLeg l start → AreOpenings p l start → (h : History p l start) → IsComplete h → ((l.task l.sink).ending ≡ Asked → ⊥)
    → (t q : ℕ) → t < l.before → (l.task t).role ≡ Source → q < (l.task t).inputs → cut_of h.end t q ≡ leg_cut l t q

-- and ends with just what is due there: what a leg delivers and leaves hangs on its two cuts alone
abbrev pub LegToItsCutIsExact : Type 0
LegToItsCutIsExact = (p : PlanData) (l : AbstractLayout) (start : ℕ → State) (w v : ℤ) → IsLayout l → AreOrderlySources p l → IsOneLeg l start → IsStart p l start w
    → (h : History p l start) → IsComplete h → ((l.task l.sink).ending ≡ Asked → ⊥) → IsMergedWatermark l (leg_cut l) v → IsExact p l w v (leg_cut l) h.end

-- at every moment of such a leg the sink has of each pane nothing, or just the row that the leg owes it in the end
abbrev pub EachMoment : Type 0
EachMoment = (p : PlanData) (l : AbstractLayout) (start : ℕ → State) (w v : ℤ) → IsLayout l → AreOrderlySources p l → IsOneLeg l start → IsStart p l start w → (h : History p l start) → IsMergedWatermark l (leg_cut l) v → (q : Pane)
    → (filter (row_is_at q) (h.end l.sink).rows ≡ []) ⊎ (filter (row_is_at q) (h.end l.sink).rows ≡ option_to_list (row_between p w v q (aggregate_until p l (leg_cut l) q)))
