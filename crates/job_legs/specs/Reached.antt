-- How far the legs of a job have come.
use Rattle.std.specs.Prelude.{◌≡◌, ℕ, suc, ◌+◌, ◌<◌, List, [], length, slice_index_or, Option, Some, None, if◌then◌else◌}
use Rattle.plan_model.specs.declared.spec.Row.{Row}
use Rattle.plan_model.specs.PlanData.{PlanData}
use Rattle.plan_model.specs.Rows.{AreRowsOf}
use Rattle.stream_model.specs.InputData.{InputData}
use Rattle.stream_model.specs.Watermarks.{IsBefore, IsCut, empty_cut}
use Rattle.stream_model.specs.PlanRows.{due_rows}
use Rattle.dataflow_laws.specs.Inputs.{due_between}
use Rattle.dataflow_laws.specs.Compiled.{cut_to}
use Rattle.legs.specs.declared.stop.Stop.{Stop}
use Rattle.legs.specs.declared.stop.Stop.TheVariants.{Never, At}
use Rattle.legs.specs.Requirements.{stops}
use Rattle.legs.specs.Stops.{until_of}
use Rattle.redistribute.specs.Stopping.{CanSaveAt, CanStop}
use Rattle.savepoint_codec.specs.declared.savepoint.Contents.{Contents}
use Rattle.core_steps.specs.declared.finish.Finish.{Finish}
use Rattle.core_steps.specs.declared.finish.Finish.TheVariants.{Ended, Stopped, Abandoned}
use Rattle.core_steps.specs.declared.sealing.Sealed.{Sealed}
use Rattle.restarts.specs.Restart.{CanRestart}
use Rattle.job_legs.specs.declared.running.Reached.{Reached}

-- a job has come to a cut: with no savepoint to the empty cut, or with the savepoint of this number there
abbrev pub HasSaved : PlanData → InputData → List (List ℕ) → ℕ → Option Contents → Type 0
HasSaved p i cut number None = (cut ≡ empty_cut i.sources) × (number ≡ 0)
HasSaved p i cut number (Some s) = CanRestart p i cut number s

-- what a leg leaves that was to stop so: nothing at the end of the input, else the savepoint of its cut
abbrev pub IsLeftBy : PlanData → InputData → ℕ → Stop → Option Contents → Type 0
IsLeftBy p i number Never saved = saved ≡ None
IsLeftBy p i number (At cut) None = ⊥
IsLeftBy p i number (At cut) (Some s) = CanRestart p i cut.counts number s

-- how many savepoints a leg takes: those on its way, and that of its stop
abbrev pub savepoints_to : List (List (List ℕ)) → Stop → ℕ
savepoints_to saves stop = length saves + (if stops stop then 1 else 0)

-- the rows of a leg, and the savepoint that it leaves: of one that was given up the last that it had sealed
abbrev pub rows_of : Finish → List Row
rows_of (Ended rows sealed) = rows
rows_of (Stopped rows s) = rows
rows_of (Abandoned x) = x.rows

abbrev pub saved_of : Finish → Option Contents
saved_of (Ended rows sealed) = None
saved_of (Stopped rows s) = Some s
saved_of (Abandoned x) = Some x.savepoint

-- how many of its savepoints a leg has taken that was given up
abbrev pub taken_of : Finish → Option ℕ
taken_of (Ended rows sealed) = None
taken_of (Stopped rows s) = None
taken_of (Abandoned x) = Some x.barrier

-- a leg from a cut, after so many savepoints, came to where it was to stop: the rows that become due on the way, each
-- once, and at a stop the savepoint that is the next after those on the way
pub record ComesTo (p : PlanData) (i : InputData) (cut : List (List ℕ)) (number : ℕ) (saves : List (List (List ℕ))) (stop : Stop) (finish : Finish) : Type 0 where
  pub delivered : AreRowsOf (due_between p i.sources cut (cut_to i (until_of stop))) (rows_of finish)
  pub left : IsLeftBy p i (number + savepoints_to saves stop) stop (saved_of finish)

-- it was given up, and had sealed all that it owed up to one of the cuts where it was to take savepoints: the rows that
-- become due from its beginning to there, each once, and the savepoint of that cut
pub record IsGivenUp (p : PlanData) (i : InputData) (cut : List (List ℕ)) (number : ℕ) (saves : List (List (List ℕ))) (x : Sealed) : Type 0 where
  pub passed : ℕ
  pub barrier : x.barrier ≡ suc passed
  pub few : passed < length saves
  pub no_earlier : IsBefore cut (slice_index_or saves passed [])
  pub delivered : AreRowsOf (due_between p i.sources cut (slice_index_or saves passed [])) x.rows
  pub saved : CanRestart p i (slice_index_or saves passed []) (number + x.barrier) x.savepoint

abbrev pub HasGiven : PlanData → InputData → List (List ℕ) → ℕ → List (List (List ℕ)) → Stop → Finish → Type 0
HasGiven p i cut number saves stop (Ended rows sealed) = ComesTo p i cut number saves stop (Ended rows sealed)
HasGiven p i cut number saves stop (Stopped rows s) = ComesTo p i cut number saves stop (Stopped rows s)
HasGiven p i cut number saves stop (Abandoned x) = IsGivenUp p i cut number saves x

-- what a leg gives that goes from a cut, after so many savepoints, and takes more at these cuts on its way to where it
-- is to stop
pub record IsLegGiven (p : PlanData) (i : InputData) (cut : List (List ℕ)) (number : ℕ) (saves : List (List (List ℕ))) (stop : Stop) (finish : Finish) : Type 0 where
  pub can : CanStop i.sources cut stop
  pub save : CanSaveAt i.sources cut saves (until_of stop)
  pub given : HasGiven p i cut number saves stop finish

-- the rows are those that are due at the cut, each once, and the job can go on from there
pub record IsAt (p : PlanData) (i : InputData) (cut : List (List ℕ)) (number : ℕ) (r : Reached) : Type 0 where
  pub is_cut : IsCut i.sources cut
  pub rows : AreRowsOf (due_rows p i.sources cut) r.rows.items
  pub saved : HasSaved p i cut number r.savepoint

-- a leg came to where it was to stop: the rows are those that are due there, each once, and its savepoint has this
-- number
pub record IsAfter (p : PlanData) (i : InputData) (stop : Stop) (number : ℕ) (r : Reached) : Type 0 where
  pub is_cut : IsCut i.sources (cut_to i (until_of stop))
  pub rows : AreRowsOf (due_rows p i.sources (cut_to i (until_of stop))) r.rows.items
  pub saved : IsLeftBy p i number stop r.savepoint
