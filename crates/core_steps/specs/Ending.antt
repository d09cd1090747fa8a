-- How a leg has ended.
use Rattle.std.specs.Prelude.{◌≡◌, ℕ, suc, ◌+◌, ◌<◌, Bool, true, false, List, [], length, slice_index_or, Option, MatchOption}
use Rattle.plan_model.specs.declared.spec.Row.{Row}
use Rattle.plan_model.specs.PlanData.{PlanData}
use Rattle.plan_model.specs.Rows.{AreRowsOf}
use Rattle.stream_model.specs.InputData.{InputData}
use Rattle.stream_model.specs.PlanRows.{plan_rows}
use Rattle.stream_model.specs.Watermarks.{IsCut, IsBefore, full_cut}
use Rattle.dataflow_laws.specs.Inputs.{due_between}
use Rattle.dataflow_laws.specs.Stopped.{ComesTo}
use Rattle.dataflow_model.specs.Leg.{Until}
use Rattle.redistribute.specs.StartData.{StartData, offsets_of}
use Rattle.redistribute.specs.Begins.{HasSnapshot}
use Rattle.leg_tasks.specs.Saved.{IsSavedAt}
use Rattle.core_steps.specs.declared.finish.Finish.{Finish}
use Rattle.core_steps.specs.declared.finish.Finish.TheVariants.{Ended, Stopped, Abandoned}
use Rattle.core_steps.specs.Finishing.{number_after}
use Rattle.core_steps.specs.declared.sealing.Sealed.{Sealed}

-- a leg that was to take these savepoints on its way has sealed this at one of them: all that it owed up to there, so
-- that where its start had the snapshot of its cut, the rows are those that became due from there to the savepoint's
-- cut, each once, and nothing else, and the savepoint is that cut's, numbered after the start's and those before it
pub record HasSealed (p : PlanData) (i : InputData) (s : StartData) (saves : List (List (List ℕ))) (x : Sealed) : Type 0 where
  pub passed : ℕ
  pub barrier : x.barrier ≡ suc passed
  pub few : passed < length saves
  pub is_cut : IsCut i.sources (slice_index_or saves passed [])
  pub no_earlier : IsBefore (offsets_of s) (slice_index_or saves passed [])
  pub delivered : HasSnapshot p i s → AreRowsOf (due_between p i.sources (offsets_of s) (slice_index_or saves passed [])) x.rows
  pub saved : HasSnapshot p i s → IsSavedAt p i (slice_index_or saves passed []) (s.number + x.barrier) x.savepoint

-- a leg that was to take these savepoints on its way has come to its end, and has sealed so: at the last of them, and
-- nothing just where it was to take none
abbrev pub HasSealedLast : PlanData → InputData → StartData → List (List (List ℕ)) → Option Sealed → Type 0
HasSealedLast p i s saves sealed = MatchOption sealed (saves ≡ []) (λ x. (x.barrier ≡ length saves) × HasSealed p i s saves x)

-- a leg that was to go so far has come to a cut and ended there, stopped or not, and where its start had the snapshot
-- of its cut, these are the rows that became due, each once, and nothing else
pub record HasGone (p : PlanData) (i : InputData) (s : StartData) (until : Until) (stopped : Bool) (rows : List Row) : Type 0 where
  pub cut : List (List ℕ)
  pub comes : ComesTo i (offsets_of s) until stopped cut
  pub delivered : HasSnapshot p i s → AreRowsOf (due_between p i.sources (offsets_of s) cut) rows

-- a leg that was to take these savepoints on its way and to go so far ended so: with its rows, and what it has sealed
-- at the last savepoint on its way; stopped, with the savepoint of the cut that it has come to and the next number; or
-- given up, with what it had sealed
abbrev pub IsEndOf : PlanData → InputData → StartData → List (List (List ℕ)) → Until → Finish → Type 0
IsEndOf p i s saves until (Ended rows sealed) = HasGone p i s until false rows × HasSealedLast p i s saves sealed
IsEndOf p i s saves until (Stopped rows savepoint) = (gone : HasGone p i s until true rows) × (HasSnapshot p i s → IsSavedAt p i gone.cut (number_after s.number saves) savepoint)
IsEndOf p i s saves until (Abandoned sealed) = HasSealed p i s saves sealed

-- a leg that might be asked to stop ended so: with all rows that become due from where its start is to the end of the
-- input, or stopped with just those up to a cut that is no earlier than the start, and the savepoint of that cut with
-- the next number, each where the start had the snapshot of its cut
abbrev pub IsAskedEnd : PlanData → InputData → StartData → Finish → Type 0
IsAskedEnd p i s (Ended rows sealed) = HasSnapshot p i s → AreRowsOf (due_between p i.sources (offsets_of s) (full_cut i.sources)) rows
IsAskedEnd p i s (Stopped rows savepoint) = (cut : List (List ℕ)) × IsCut i.sources cut × IsBefore (offsets_of s) cut × (HasSnapshot p i s → AreRowsOf (due_between p i.sources (offsets_of s) cut) rows × IsSavedAt p i cut (s.number + 1) savepoint)
IsAskedEnd p i s (Abandoned sealed) = ⊥

-- it ended, with all rows of the plan on the input, each once, and nothing else
abbrev pub IsWholeRun : PlanData → InputData → Finish → Type 0
IsWholeRun p i (Ended rows sealed) = AreRowsOf (plan_rows p i.sources) rows
IsWholeRun p i (Stopped rows savepoint) = ⊥
IsWholeRun p i (Abandoned sealed) = ⊥

-- it did, or it was given up
abbrev pub IsWholeOrGivenUp : PlanData → InputData → Finish → Type 0
IsWholeOrGivenUp p i (Ended rows sealed) = AreRowsOf (plan_rows p i.sources) rows
IsWholeOrGivenUp p i (Stopped rows savepoint) = ⊥
IsWholeOrGivenUp p i (Abandoned sealed) = Unit {0}
