-- Savepoints that are taken while a leg goes on.
use Rattle.std.specs.Prelude.{◌≡◌, ℕ, ◌<◌, ◌≤◌, ℤ, slice_index, take}
use Rattle.plan_model.specs.PlanData.{PlanData}
use Rattle.plan_model.specs.Rows.{AreRowsOf}
use Rattle.dataflow_model.specs.declared.role.Role.TheVariants.{Source}
use Rattle.dataflow_model.specs.AbstractLayout.{AbstractLayout, IsLayout}
use Rattle.dataflow_model.specs.State.{State, kept_at}
use Rattle.dataflow_model.specs.OneLeg.{IsOneLeg}
use Rattle.dataflow_model.specs.Cuts.{AreOrderlySources, IsMergedWatermark, save_cut, aggregate_until, snapshot_until, row_between}
use Rattle.dataflow_model.specs.Snapshots.{HaveWatermarks, AtOwners}
use Rattle.dataflow_model.specs.Start.{IsStart}
use Rattle.dataflow_model.specs.History.{History}

-- what tasks have kept at the leg's savepoint m is its cut, whose watermark is v, the watermarks of the partitions
-- there, the rows of the panes that are due by v and were not by w, and the snapshot
pub record IsSavepoint (p : PlanData) (l : AbstractLayout) (w v : ℤ) (m : ℕ) (end : ℕ → State) : Type 0 where
  pub offsets : (t q : ℕ) → t < l.before → (l.task t).role ≡ Source → q < (l.task t).inputs → slice_index (kept_at m (end t)).offsets q ≡ save_cut l m t q
  pub marks : HaveWatermarks l (λ t. (kept_at m (end t)).marks) (save_cut l m)
  pub rows : AreRowsOf (λ q. row_between p w v q (aggregate_until p l (save_cut l m) q)) (take (kept_at m (end l.sink)).rows (end l.sink).rows)
  pub windows : AtOwners l (λ u. (kept_at m (end u)).windows) (snapshot_until p l (save_cut l m) v)

-- once every task has aligned on the barrier of a savepoint, at whatever moment, they have kept just what it is to have
abbrev pub SavepointIsExact : Type 0
SavepointIsExact = (p : PlanData) (l : AbstractLayout) (start : ℕ → State) (w v : ℤ) (m : ℕ) → IsLayout l → AreOrderlySources p l → IsOneLeg l start → IsStart p l start w → (h : History p l start)
    → m < (l.task l.sink).saves → ((t : ℕ) → t ≤ l.sink → m < (h.end t).next) → IsMergedWatermark l (save_cut l m) v → IsSavepoint p l w v m h.end
