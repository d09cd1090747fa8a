-- The turns of the legs of a list, each by its own choices.
use Rattle.std.specs.Prelude.{◌≡◌, ℕ, suc, ◌+◌, ◌≤◌, List, [], ◌++◌, length, drop, take, slice_get, slice_index_or, Option, Some, None, option_map}
use Rattle.core_steps.specs.declared.finish.Finish.{Finish}
use Rattle.dataflow_model.specs.Leg.{Until}
use Rattle.layout_rules.specs.ScaleData.{ScaleData}
use Rattle.legs.specs.declared.choice.Choice.{Choice}
use Rattle.legs.specs.declared.leg.LegSpec.{LegSpec}
use Rattle.legs.specs.Stops.{counts_of, until_of}
use Rattle.plan_model.specs.PlanData.{PlanData}
use Rattle.plan_model.specs.Rows.{AreRowsOf}
use Rattle.plan_model.specs.declared.spec.Pane.{Pane}
use Rattle.plan_model.specs.declared.spec.Row.{Row}
use Rattle.redistribute.specs.StartData.{StartData}
use Rattle.restarts.specs.Laws.{IsStartAt}
use Rattle.savepoint_codec.specs.declared.savepoint.Contents.{Contents}
use Rattle.savepoint_index.specs.Layout.{savepoint_bytes}
use Rattle.stream_model.specs.InputData.{InputData}
use Rattle.job_legs.specs.Reached.{HasSaved, IsLegGiven, rows_of, saved_of, taken_of}
use Rattle.job_legs.specs.Running.{savepoints_in}

-- a turn of the leg at a place, from the cut to which the turn before has come and what that one left: it has given
-- what such a leg gives, with the leg's own scale and stop, and savepoints at the rest of the leg's cuts, and it went
-- by the list of choices at that place
pub record IsTurn (by : PlanData → ScaleData → InputData → StartData → List (List (List ℕ)) → Until → List Choice → Finish → Type 0) (p : PlanData) (i : InputData) (legs : List LegSpec) (lists : List (List Choice)) (place : ℕ) (left : Option Contents) (finish : Finish) : Type 0 where
  pub leg : LegSpec
  pub is : slice_get legs place ≡ Some leg
  pub cut : List (List ℕ)
  pub number : ℕ
  pub saved : HasSaved p i cut number left
  pub start : StartData
  pub starts : IsStartAt p i cut number start
  -- so many of its savepoints were taken before, and all of the legs before it
  pub taken : ℕ
  pub few : taken ≤ length leg.saves
  pub counted : number ≡ savepoints_in (take place legs) + taken
  pub gives : IsLegGiven p i cut number (counts_of (drop taken leg.saves)) leg.stop finish
  pub goes : by p leg.scale i start (counts_of (drop taken leg.saves)) (until_of leg.stop) (slice_index_or lists place []) finish

-- how many legs are over after a turn of the one behind these: one more, unless it was given up
abbrev pub over_after : ℕ → Option ℕ → ℕ
over_after over (Some taken) = over
over_after over None = suc over

-- legs have had their turns, so that so many are over: the rows of all turns together, in their order, and what the
-- last one left
pub data HaveTurned (by : PlanData → ScaleData → InputData → StartData → List (List (List ℕ)) → Until → List Choice → Finish → Type 0) (p : PlanData) (i : InputData) (legs : List LegSpec) (lists : List (List Choice)) : ℕ → List Row → Option Contents → Type 0 where
  none : HaveTurned by p i legs lists 0 [] None
  more : {over : ℕ} {rows : List Row} {left : Option Contents} → HaveTurned by p i legs lists over rows left → (finish : Finish) → IsTurn by p i legs lists over left finish
      → HaveTurned by p i legs lists (over_after over (taken_of finish)) (rows ++ rows_of finish) (saved_of finish)

-- there are such turns of all legs of a list, which come to these rows, in whatever order, and to these bytes of what
-- the last one left
pub record HaveRunBy (by : PlanData → ScaleData → InputData → StartData → List (List (List ℕ)) → Until → List Choice → Finish → Type 0) (p : PlanData) (i : InputData) (legs : List LegSpec) (lists : List (List Choice)) (found : List Row) (bytes : Option (List ℕ)) : Type 0 where
  pub rows : List Row
  pub left : Option Contents
  pub turned : HaveTurned by p i legs lists (length legs) rows left
  pub same : (f : Pane → Option Row) → AreRowsOf f rows → AreRowsOf f found
  pub saved : bytes ≡ option_map savepoint_bytes left
