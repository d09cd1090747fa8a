-- Legs of a job whose input changes behind the cut where a leg stopped: entries come that were not there yet, and
-- others are put right.
use Rattle.std.specs.Prelude.{◌≡◌, ◌⊎◌, ℕ, List, [], ◌∷◌, ◌++◌, filter, option_to_list, Some, None}
use Rattle.plan_model.specs.PlanData.{PlanData, IsPlan}
use Rattle.plan_model.specs.declared.spec.Pane.{Pane}
use Rattle.plan_model.specs.Rows.{AreRowsOf, row_is_at}
use Rattle.stream_model.specs.InputData.{InputData, IsInput, BelongsTo}
use Rattle.stream_model.specs.Watermarks.{IsBefore, IsCut, IsOrderly}
use Rattle.stream_model.specs.PlanRows.{plan_rows}
use Rattle.input_changes.specs.Agreement.{AgreeBefore, HaveSameEntries}
use Rattle.dataflow_laws.specs.Inputs.{due_between}
use Rattle.legs.specs.declared.cut.Cut.{Cut}
use Rattle.legs.specs.declared.stop.Stop.{Stop}
use Rattle.legs.specs.declared.stop.Stop.TheVariants.{Never, At}
use Rattle.savepoint_codec.specs.Layout.{IsSavepoint}
use Rattle.savepoint_codec.specs.declared.savepoint.Contents.{Contents}
use Rattle.redistribute.specs.StartData.{StartData}
use Rattle.redistribute.specs.Begins.{IsFromNothing}
use Rattle.core_steps.specs.World.{WorldData}
use Rattle.core_steps.specs.Finishing.{rows_in}
use Rattle.leg_tasks.specs.Saved.{IsSavedAt}
use Rattle.job_legs.specs.Ending.{rows_to}
use Rattle.lineages.specs.Lineage.{AreExact, Gives, GoesOnFrom, IsUnderWay, LegEnd, delivered, leg_savepoint}
use Rattle.lineages.specs.Calls.{AreExactCalls, AreGivenAt, AreHandedOn, AreRead, HasRowsToCome, IsAnswered, IsReach, LegCall, Reach}

-- what becomes due between two cuts is the same by two inputs that agree before the later one
abbrev pub BetweenIsSame : Type 0
BetweenIsSame = (p : PlanData) (old new : InputData) (b c : List (List ℕ)) (q : Pane) → IsOrderly p.window.time old.sources → IsOrderly p.window.time new.sources → IsBefore b c → AgreeBefore old new c
    → due_between p old.sources b c q ≡ due_between p new.sources b c q

-- where the entries before a cut are the same in two inputs of a plan, and the check accepts the cut's savepoint of the
-- one for the other, they agree before the cut: the check has compared the watermarks there
abbrev pub AcceptedAgree : Type 0
AcceptedAgree = (p : PlanData) (old new : InputData) (cut : List (List ℕ)) (number : ℕ) (saved : Contents) (s : StartData) → IsPlan p → IsInput old → BelongsTo p old → BelongsTo p new → IsCut old.sources cut
    → IsSavedAt p old cut number saved → IsSavepoint saved → HaveSameEntries old new cut → GoesOnFrom p new saved s → AgreeBefore old new cut

-- one leg or more of the plan, each on an input of its own, the last first, of which the last was on this input and has
-- come there: the first from nothing, and each other from bytes that spell the savepoint that the one before left where
-- it had come to, a cut before which both have the same entries
pub data LineageOverInputs (p : PlanData) : InputData → Stop → List LegEnd → Type 0 where
  begins_on : {i : InputData} {s : StartData} {stop : Stop} {e : LegEnd} → IsFromNothing i s → Gives p i s stop e → LineageOverInputs p i stop (e ∷ [])
  goes_on_with : {old i : InputData} {cut : Cut} {before : LegEnd} {earlier : List LegEnd} {s : StartData} {stop : Stop} {e : LegEnd} → LineageOverInputs p old (At cut) (before ∷ earlier) → HaveSameEntries old i cut.counts
      → IsSavepoint (leg_savepoint before) → GoesOnFrom p i (leg_savepoint before) s → Gives p i s stop e → LineageOverInputs p i stop (e ∷ before ∷ earlier)

-- they have delivered together just the rows that are due where the last has come to by the last input, each once, and
-- at a cut it leaves the cut's savepoint
abbrev pub LineagesOverInputsAreExact : Type 0
LineagesOverInputsAreExact = (p : PlanData) (i : InputData) (stop : Stop) (last : LegEnd) (earlier : List LegEnd) → LineageOverInputs p i stop (last ∷ earlier) → AreExact p i stop last (last ∷ earlier)

-- so once one runs to the end of its input, just the plan's rows on all of that input, each once
abbrev pub HeadlineOverInputs : Type 0
HeadlineOverInputs = (p : PlanData) (i : InputData) (legs : List LegEnd) → LineageOverInputs p i Never legs → AreRowsOf (plan_rows p i.sources) (delivered legs)

-- such legs of which the last is on its way
pub data UnderWayOverInputs (p : PlanData) : InputData → Stop → WorldData → List LegEnd → Type 0 where
  sets_out_on : {i : InputData} {s : StartData} {saves : List (List (List ℕ))} {stop : Stop} {w : WorldData} → IsFromNothing i s → IsUnderWay p i s saves stop w → UnderWayOverInputs p i stop w []
  goes_further_with : {old i : InputData} {cut : Cut} {before : LegEnd} {earlier : List LegEnd} {s : StartData} {saves : List (List (List ℕ))} {stop : Stop} {w : WorldData} → LineageOverInputs p old (At cut) (before ∷ earlier) → HaveSameEntries old i cut.counts
      → IsSavepoint (leg_savepoint before) → GoesOnFrom p i (leg_savepoint before) s → IsUnderWay p i s saves stop w → UnderWayOverInputs p i stop w (before ∷ earlier)

-- at every moment, of each pane they have delivered together nothing, or just the row that is due by the last input
-- where the last is to stop, once
abbrev pub EachMomentOverInputs : Type 0
EachMomentOverInputs = (p : PlanData) (i : InputData) (stop : Stop) (w : WorldData) (earlier : List LegEnd) → UnderWayOverInputs p i stop w earlier → (q : Pane)
    → let rows = filter (row_is_at q) (delivered earlier ++ rows_in w) in (rows ≡ []) ⊎ (rows ≡ option_to_list (rows_to p i stop q))

-- the inputs of a plan that two texts say have the same entries before the cut that a call has come to by the first,
-- which is that of the savepoint whose bytes it gave
abbrev pub SaySameEntries : List ℕ → List ℕ → List ℕ → LegCall → Type 0
SaySameEntries plan old new c = (p : PlanData) (i j : InputData) (reach : Reach) (cut : Cut) (number : ℕ) → AreRead plan old p i → AreRead plan new p j → IsReach c reach → reach.stop ≡ At cut → AreGivenAt p i number (Some cut) c.saved → HaveSameEntries i j cut.counts

-- one call or more of one plan, each with the text of an input of its own, the last first, of which the last was given
-- this text: the first from nothing, and each other from what the one before gave where it came to a stop or was given
-- up, at a cut before which both inputs have the same entries
pub data CallsOverInputs (plan : List ℕ) : List ℕ → List LegCall → Type 0 where
  first_on : {input : List ℕ} {c : LegCall} → c.from ≡ None → IsAnswered plan input c → CallsOverInputs plan input (c ∷ [])
  next_on : {old input given bytes : List ℕ} {before : LegCall} {earlier : List LegCall} {c : LegCall} → CallsOverInputs plan old (before ∷ earlier) → HasRowsToCome before → SaySameEntries plan old input before
      → before.saved ≡ Some given → AreHandedOn given bytes → c.from ≡ Some bytes → IsAnswered plan input c → CallsOverInputs plan input (c ∷ before ∷ earlier)

-- they have written together the lines of just the rows of where the last has come to, by the last input
abbrev pub CallsOverInputsAreExact : Type 0
CallsOverInputsAreExact = (plan input : List ℕ) (p : PlanData) (i : InputData) (last : LegCall) (earlier : List LegCall) → AreRead plan input p i → CallsOverInputs plan input (last ∷ earlier)
    → (reach : Reach) × IsReach last reach × AreExactCalls p i reach last earlier
