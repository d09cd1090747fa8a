-- Legs of a job, one after another, in whatever order their tasks made their steps.
use Rattle.std.specs.Prelude.{◌≡◌, ◌⊎◌, ℕ, suc, ◌+◌, List, [], ◌∷◌, ◌++◌, filter, length, option_to_list, Some, Ok, if◌then◌else◌}
use Rattle.plan_model.specs.PlanData.{PlanData, IsPlan}
use Rattle.plan_model.specs.declared.spec.Pane.{Pane}
use Rattle.plan_model.specs.Rows.{AreRowsOf, row_is_at}
use Rattle.plan_model.specs.declared.spec.Row.{Row}
use Rattle.stream_model.specs.InputData.{InputData, IsInput, BelongsTo}
use Rattle.stream_model.specs.Watermarks.{IsCut}
use Rattle.stream_model.specs.PlanRows.{plan_rows}
use Rattle.dataflow_model.specs.State.{State}
use Rattle.plan_compiler.specs.LayoutData.{LayoutData}
use Rattle.dataflow_laws.specs.Compiled.{cut_to}
use Rattle.dataflow_laws.specs.Inputs.{due_between}
use Rattle.legs.specs.declared.cut.Cut.{Cut}
use Rattle.legs.specs.declared.stop.Stop.{Stop}
use Rattle.legs.specs.declared.stop.Stop.TheVariants.{Never, At}
use Rattle.savepoint_codec.specs.Layout.{IsSavepoint}
use Rattle.savepoint_codec.specs.declared.savepoint.Contents.{Contents}
use Rattle.savepoint_index.specs.Layout.{Spells, savepoint_bytes}
use Rattle.legs.specs.Stops.{until_of}
use Rattle.redistribute.specs.StartData.{StartData, offsets_of}
use Rattle.redistribute.specs.Begins.{HasSnapshot, IsFromNothing}
use Rattle.restore.specs.Answer.{start_or_fault}
use Rattle.restarts.specs.Laws.{IsStartAt}
use Rattle.task_steps.specs.TaskData.{TaskData}
use Rattle.core_steps.specs.Given.{GivenData}
use Rattle.core_steps.specs.World.{WorldData, IsGiven, IsWorld, state_at, world_in}
use Rattle.core_steps.specs.Finishing.{AreAtEnd, HasEnded, HasFinished, has_stopped, rows_in, rows_of, savepoint_of}
use Rattle.core_steps.specs.Sealing.{AreOnTheWay, HasCome, IsBarrierCut, IsSealed, IsSealedAt}
use Rattle.core_steps.specs.declared.sealing.Sealed.{Sealed}
use Rattle.leg_tasks.specs.Saved.{IsSavedAt}
use Rattle.job_legs.specs.Ending.{rows_to}
use Rattle.job_legs.specs.Reached.{savepoints_to}

-- what a world is told of its leg
abbrev pub given_of : PlanData → InputData → StartData → LayoutData → List (List (List ℕ)) → Stop → GivenData
given_of p i s l saves stop = record { plan = p; input = i; start = s; layout = l; saves = saves; until = until_of stop }

-- a leg on its way from a start, with savepoints at these cuts, to where it is to stop, at any scale: a world to which
-- steps led that it accepted, in any order, be it finished or not, and also where a step found no memory
pub record IsUnderWay (p : PlanData) (i : InputData) (s : StartData) (saves : List (List (List ℕ))) (stop : Stop) (w : WorldData) : Type 0 where
  pub layout : LayoutData
  pub given : w.given ≡ given_of p i s layout saves stop
  pub world : IsWorld w

-- what a leg has come to: it has ended, with what it was given and the states in which its tasks are then; or it was
-- given up, with what it had sealed
pub data LegEnd : Type 0 where
  ended : GivenData → (ℕ → State) → LegEnd
  given_up : Sealed → LegEnd

-- the rows that it has delivered: all that its sink has collected, or those that it had sealed
abbrev pub leg_rows : LegEnd → List Row
leg_rows (ended g states) = rows_of g states
leg_rows (given_up x) = x.rows

-- the savepoint that it leaves: what its tasks leave, or the last that it had sealed
abbrev pub leg_savepoint : LegEnd → Contents
leg_savepoint (ended g states) = savepoint_of g states
leg_savepoint (given_up x) = x.savepoint

-- how many savepoints it has taken: those on its way, and that of its stop if it stopped; or those up to the last that
-- it had sealed
abbrev pub savepoints_of : LegEnd → ℕ
savepoints_of (ended g states) = length g.saves + (if has_stopped g states then 1 else 0)
savepoints_of (given_up x) = x.barrier

-- where tasks stand that are all done, and where those of a world do
abbrev pub end_at : GivenData → List TaskData → LegEnd
end_at g tasks = ended g (state_at g tasks)

abbrev pub end_in : WorldData → LegEnd
end_in w = end_at w.given w.tasks

-- a leg of the plan on the input from a start, with savepoints at these cuts on its way, to where it was to stop, at
-- any scale: it has ended, in one world or on threads, in whatever order its tasks made their steps
pub record IsLeg (p : PlanData) (i : InputData) (s : StartData) (saves : List (List (List ℕ))) (stop : Stop) (e : LegEnd) : Type 0 where
  pub layout : LayoutData
  pub states : ℕ → State
  pub is : e ≡ ended (given_of p i s layout saves stop) states
  pub has_ended : HasEnded (given_of p i s layout saves stop) states

-- so is a world on its way once all its tasks are done
abbrev pub FinishedIsLeg : Type 0
FinishedIsLeg = (p : PlanData) (i : InputData) (s : StartData) (saves : List (List (List ℕ))) (stop : Stop) (w : WorldData) → IsUnderWay p i s saves stop w → HasFinished w → IsLeg p i s saves stop (end_in w)

-- and so are tasks that stand at the end of a complete history, by whatever threads they came there
abbrev pub TasksAreLeg : Type 0
TasksAreLeg = (g : GivenData) (stop : Stop) (tasks : List TaskData) → g.until ≡ until_of stop → AreAtEnd g tasks → IsLeg g.plan g.input g.start g.saves stop (end_at g tasks)

-- a leg has taken its savepoints: those on its way, and that of its stop
abbrev pub LegsTakeTheirSavepoints : Type 0
LegsTakeTheirSavepoints = (p : PlanData) (i : InputData) (s : StartData) (saves : List (List (List ℕ))) (stop : Stop) (e : LegEnd) → IsLeg p i s saves stop e → savepoints_of e ≡ savepoints_to saves stop

-- a leg of the plan on the input from a start has come to where it was to stop, with savepoints at any cuts on its way;
-- or it was given up at any moment, and has come to the cut of the last barrier that every task had passed, with what
-- it had sealed there
pub data Gives (p : PlanData) (i : InputData) (s : StartData) : Stop → LegEnd → Type 0 where
  ends : {saves : List (List (List ℕ))} {stop : Stop} {e : LegEnd} → IsLeg p i s saves stop e → Gives p i s stop e
  gives_up : {layout : LayoutData} {saves : List (List (List ℕ))} {states : ℕ → State} {m : ℕ} {x : Sealed} (stop : Stop) (cut : Cut) → IsGiven (given_of p i s layout saves stop) → HasCome (given_of p i s layout saves stop) states
      → IsSealedAt (given_of p i s layout saves stop) states m x → IsBarrierCut (given_of p i s layout saves stop) m cut.counts → Gives p i s (At cut) (given_up x)

-- a leg that was told this gives what it had sealed at one of its barriers, and has come to the barrier's cut
pub record GivesSealed (g : GivenData) (x : Sealed) : Type 0 where
  pub passed : ℕ
  pub barrier : x.barrier ≡ suc passed
  pub cut : Cut
  pub is_cut : IsBarrierCut g passed cut.counts
  pub gives : Gives g.plan g.input g.start (At cut) (given_up x)

-- so does a world, given up at any moment of its way at which it has sealed something, also where a step found no
-- memory
abbrev pub WorldsGiveUp : Type 0
WorldsGiveUp = (p : PlanData) (i : InputData) (s : StartData) (saves : List (List (List ℕ))) (stop : Stop) (w : WorldData) (x : Sealed) → (way : IsUnderWay p i s saves stop w) → IsSealed w.given (world_in w).tasks (Some x) → GivesSealed (given_of p i s way.layout saves stop) x

-- and so do tasks that stand on the way of a leg, by whatever threads they came there
abbrev pub TasksGiveUp : Type 0
TasksGiveUp = (g : GivenData) (stop : Stop) (tasks : List TaskData) (x : Sealed) → g.until ≡ until_of stop → AreOnTheWay g tasks → IsSealed g (state_at g tasks) (Some x) → GivesSealed g x

-- a start that is answered of bytes: they spell a savepoint, with an index or without one, and its check gives the
-- start
pub record ComesFrom (p : PlanData) (i : InputData) (bytes : List ℕ) (s : StartData) : Type 0 where
  pub savepoint : Contents
  pub is_savepoint : IsSavepoint savepoint
  pub spelled : Spells bytes savepoint
  pub checked : start_or_fault p i savepoint ≡ Ok s

-- a start goes on from a savepoint: it comes from bytes that spell it, with an index or without one
pub record GoesOnFrom (p : PlanData) (i : InputData) (old : Contents) (s : StartData) : Type 0 where
  pub bytes : List ℕ
  pub spelled : Spells bytes old
  pub comes : ComesFrom p i bytes s

-- a start that goes on from a cut's savepoint is at that cut, with its snapshot, after as many savepoints
abbrev pub BytesRestart : Type 0
BytesRestart = (p : PlanData) (i : InputData) (cut : List (List ℕ)) (number : ℕ) (old : Contents) (s : StartData) → IsPlan p → IsInput i → BelongsTo p i → IsCut i.sources cut → IsSavedAt p i cut number old → IsSavepoint old
    → GoesOnFrom p i old s → IsStartAt p i cut number s

-- one leg or more, the last first, of which the last has come there: the first from nothing, and each other from bytes
-- that spell the savepoint that the one before left where it had come to
pub data Lineage (p : PlanData) (i : InputData) : Stop → List LegEnd → Type 0 where
  begins : {s : StartData} {stop : Stop} {e : LegEnd} → IsFromNothing i s → Gives p i s stop e → Lineage p i stop (e ∷ [])
  goes_on : {cut : Cut} {before : LegEnd} {earlier : List LegEnd} {s : StartData} {stop : Stop} {e : LegEnd} → Lineage p i (At cut) (before ∷ earlier) → IsSavepoint (leg_savepoint before)
      → GoesOnFrom p i (leg_savepoint before) s → Gives p i s stop e → Lineage p i stop (e ∷ before ∷ earlier)

-- the rows that legs have delivered together, those of the first first
abbrev pub delivered : List LegEnd → List Row
delivered [] = []
delivered (e ∷ earlier) = delivered earlier ++ leg_rows e

-- how many savepoints they have taken together
abbrev pub savepoints_in : List LegEnd → ℕ
savepoints_in [] = 0
savepoints_in (e ∷ earlier) = savepoints_in earlier + savepoints_of e

-- once one runs to the end, they are just the plan's rows on the whole input, each once
abbrev pub Headline : Type 0
Headline = (p : PlanData) (i : InputData) (legs : List LegEnd) → Lineage p i Never legs → AreRowsOf (plan_rows p i.sources) (delivered legs)

-- what legs have delivered, and left where the last came to a cut: its savepoint, numbered by all that they have taken
pub record AreExact (p : PlanData) (i : InputData) (stop : Stop) (last : LegEnd) (legs : List LegEnd) : Type 0 where
  pub rows : AreRowsOf (rows_to p i stop) (delivered legs)
  pub saved : (cut : Cut) → stop ≡ At cut → IsSavedAt p i cut.counts (savepoints_in legs) (leg_savepoint last)

-- and where the last comes to a cut, just the rows that are due there, each once, and the savepoint of the cut
abbrev pub LineagesAreExact : Type 0
LineagesAreExact = (p : PlanData) (i : InputData) (stop : Stop) (last : LegEnd) (earlier : List LegEnd) → Lineage p i stop (last ∷ earlier) → AreExact p i stop last (last ∷ earlier)

-- two legs from one snapshot to one cut, after as many savepoints, leave the same bytes, ended or given up
abbrev pub OneSavepoint : Type 0
OneSavepoint = (p : PlanData) (i : InputData) (cut : List (List ℕ)) (number : ℕ) (end : Cut) (s other : StartData) (e d : LegEnd) → IsStartAt p i cut number s → IsStartAt p i cut number other → Gives p i s (At end) e → Gives p i other (At end) d
    → savepoints_of e ≡ savepoints_of d → savepoint_bytes (leg_savepoint e) ≡ savepoint_bytes (leg_savepoint d)

-- at every moment of one leg that starts with the snapshot of its cut, of each pane its sink has nothing, or just the
-- row that becomes due between the start and where the leg is to stop, once
abbrev pub EachMomentOfALeg : Type 0
EachMomentOfALeg = (p : PlanData) (i : InputData) (s : StartData) (saves : List (List (List ℕ))) (stop : Stop) (w : WorldData) → HasSnapshot p i s → IsUnderWay p i s saves stop w → (q : Pane)
    → let owed = due_between p i.sources (offsets_of s) (cut_to i (until_of stop)) q in
    (filter (row_is_at q) (rows_in w) ≡ []) ⊎ (filter (row_is_at q) (rows_in w) ≡ option_to_list owed)

-- legs one after another of which the last is on its way, with savepoints at any cuts, and those before it have ended
-- or were given up, the last of them first
pub data UnderWay (p : PlanData) (i : InputData) : Stop → WorldData → List LegEnd → Type 0 where
  sets_out : {s : StartData} {saves : List (List (List ℕ))} {stop : Stop} {w : WorldData} → IsFromNothing i s → IsUnderWay p i s saves stop w → UnderWay p i stop w []
  goes_further : {cut : Cut} {before : LegEnd} {earlier : List LegEnd} {s : StartData} {saves : List (List (List ℕ))} {stop : Stop} {w : WorldData} → Lineage p i (At cut) (before ∷ earlier) → IsSavepoint (leg_savepoint before)
      → GoesOnFrom p i (leg_savepoint before) s → IsUnderWay p i s saves stop w → UnderWay p i stop w (before ∷ earlier)

-- at every moment, of each pane they have delivered together nothing, or just the row that is due where the last is to
-- stop, once: so no row is wrong, and none comes twice
abbrev pub EachMomentIsPart : Type 0
EachMomentIsPart = (p : PlanData) (i : InputData) (stop : Stop) (w : WorldData) (earlier : List LegEnd) → UnderWay p i stop w earlier → (q : Pane)
    → let rows = filter (row_is_at q) (delivered earlier ++ rows_in w) in (rows ≡ []) ⊎ (rows ≡ option_to_list (rows_to p i stop q))
