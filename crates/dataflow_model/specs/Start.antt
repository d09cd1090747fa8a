-- How the tasks of a leg start.
use Rattle.std.specs.Prelude.{ℕ, ◌≤◌, ℤ}
use Rattle.plan_model.specs.PlanData.{PlanData}
use Rattle.dataflow_model.specs.State.{State}
use Rattle.dataflow_model.specs.AbstractLayout.{AbstractLayout}
use Rattle.dataflow_model.specs.Opening.{IsOpening}
use Rattle.dataflow_model.specs.OneLeg.{IsOneLeg}
use Rattle.dataflow_model.specs.Cuts.{cut_of, IsMergedWatermark, snapshot_until}
use Rattle.dataflow_model.specs.Snapshots.{AtOwners}

-- each task begins in an opening state
abbrev pub AreOpenings : PlanData → AbstractLayout → (ℕ → State) → Type 0
AreOpenings p l start = (t : ℕ) → t ≤ l.sink → IsOpening p (l.task t).role (l.task t) (start t)

-- and all are tasks of one leg
pub record IsLegStart (p : PlanData) (l : AbstractLayout) (start : ℕ → State) : Type 0 where
  pub opens : AreOpenings p l start
  pub leg : IsOneLeg l start

-- tasks begin with the snapshot of their sources' offsets, whose watermark is w
pub record IsStart (p : PlanData) (l : AbstractLayout) (start : ℕ → State) (w : ℤ) : Type 0 where
  pub opens : AreOpenings p l start
  pub merged : IsMergedWatermark l (cut_of start) w
  pub windows : AtOwners l (λ u. (start u).windows) (snapshot_until p l (cut_of start) w)
