-- What a leg leaves at a cut.
use Rattle.std.specs.Prelude.{◌≡◌, ℕ, ◌≤◌, ◌^◌, List}
use Rattle.std.specs.FinMap.{FinMap}
use Rattle.plan_model.specs.Aggregates.{Aggregated}
use Rattle.plan_model.specs.PlanData.{PlanData}
use Rattle.plan_model.specs.Rows.{pane_cmp}
use Rattle.savepoint_codec.specs.declared.savepoint.Contents.{Contents}
use Rattle.stream_model.specs.InputData.{InputData}
use Rattle.restarts.specs.Laws.{IsLeftAt, savepoint_at}

-- a job can go on at a cut from a savepoint: it is the one of this number there, with the snapshot of the cut in its
-- windows, and another can follow it
pub record CanRestart (p : PlanData) (i : InputData) (cut : List (List ℕ)) (number : ℕ) (s : Contents) : Type 0 where
  pub windows : FinMap pane_cmp Aggregated
  pub left : IsLeftAt p i cut windows
  pub few : number ≤ 2 ^ 63
  pub is : s ≡ savepoint_at p i cut windows number
