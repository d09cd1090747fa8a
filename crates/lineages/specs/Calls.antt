-- What calls of `job_leg` write together, each of which goes on from what the one before gave.
use Rattle.std.specs.Prelude.{◌≡◌, ◌⊎◌, ℕ, suc, ◌+◌, ◌<◌, Bool, true, false, List, [], ◌∷◌, ◌++◌, length, slice_index_or, Option, Some, None, Ok}
use Rattle.std.specs.Io.KnownBytes.{Appends}
use Rattle.std.specs.List.{All}
use Rattle.plan_model.specs.PlanData.{PlanData}
use Rattle.plan_model.specs.Rows.{AreRowsOf}
use Rattle.plan_model.specs.declared.spec.Row.{Row}
use Rattle.logical_plan.specs.Answer.{plan_of_bytes}
use Rattle.stream_model.specs.InputData.{InputData}
use Rattle.input_texts.specs.Answer.{input_of_bytes}
use Rattle.legs.specs.declared.cut.Cut.{Cut}
use Rattle.legs.specs.declared.stop.Stop.{Stop}
use Rattle.legs.specs.declared.stop.Stop.TheVariants.{Never, At}
use Rattle.legs.specs.Stops.{counts_of}
use Rattle.savepoint_codec.specs.Layout.{IsSavepoint, unindexed_bytes}
use Rattle.savepoint_codec.specs.declared.savepoint.Contents.{Contents}
use Rattle.savepoint_index.specs.Layout.{savepoint_bytes}
use Rattle.redistribute.specs.StartData.{StartData}
use Rattle.leg_tasks.specs.Saved.{IsSavedAt}
use Rattle.job_texts.specs.Text.{text_of_rows}
use Rattle.job_legs.specs.Ending.{rows_to}
use Rattle.job_legs.specs.Reached.{savepoints_to}
use Rattle.job.specs.Leg.{LegJob, LegLeft, LegRuns, IsLegTold, TellsLeg, leg_said, saves_said, start_said, stop_said, words}
use Rattle.lineages.specs.Lineage.{ComesFrom}

-- a start that the bytes of a savepoint say is what the check gives of the savepoint that they spell
abbrev pub SaidComesFrom : Type 0
SaidComesFrom = (p : PlanData) (i : InputData) (bytes : List ℕ) (s : StartData) → All (λ b. b < 256) bytes → start_said p i (Some bytes) ≡ Ok s → ComesFrom p i bytes s

-- what a call was given besides the plan and the input, the text that it wrote, the bytes that it gave, and whether its
-- leg was given up
pub record LegCall : Type 0 where
  pub scale : List ℕ
  pub from : Option (List ℕ)
  pub saves : Option (List ℕ)
  pub stop : Option (List ℕ)
  pub text : List ℕ
  pub saved : Option (List ℕ)
  pub abandoned : Bool

-- its texts say a leg that can run so, and it wrote and gave what this leg gives that came to where it was to stop, or
-- was given up
pub record IsAnswered (plan input : List ℕ) (c : LegCall) : Type 0 where
  pub job : LegJob
  pub said : leg_said plan input c.scale c.from (words c.saves c.stop) ≡ Ok job
  pub runs : LegRuns job None
  pub told : IsLegTold c.abandoned job c.text c.saved

-- by its contract each call of `job_leg` is such that answers Ok
abbrev pub CallsAreAnswered : Type 0
CallsAreAnswered = (plan input scale : List ℕ) (from saves stop old new : Option (List ℕ)) (left : LegLeft) → TellsLeg (λ out. out) (leg_said plan input scale from (words saves stop)) (Ok left) old new
    → (text : List ℕ) × Appends old new text × IsAnswered plan input (record { scale = scale; from = from; saves = saves; stop = stop; text = text; saved = left.savepoint; abandoned = left.abandoned })

-- it came to a stop, or was given up, so that rows are still to come: one that ran to the end of the input may give the
-- bytes of a savepoint on its way, from which nothing goes on
abbrev pub HasRowsToCome : LegCall → Type 0
HasRowsToCome c = (c.abandoned ≡ true) ⊎ ¬ (c.stop ≡ None)

-- the bytes that a call goes on from are those that the one before gave, or spell the same savepoint without an index,
-- as a program gives them that writes no index
abbrev pub AreHandedOn : List ℕ → List ℕ → Type 0
AreHandedOn given bytes = (bytes ≡ given) ⊎ ((s : Contents) × IsSavepoint s × (given ≡ savepoint_bytes s) × (bytes ≡ unindexed_bytes s))

-- one call or more of one plan and one input, the last first: the first from nothing, and each other from what the one
-- before gave where it came to a stop or was given up
pub data Calls (plan input : List ℕ) : List LegCall → Type 0 where
  first : {c : LegCall} → c.from ≡ None → IsAnswered plan input c → Calls plan input (c ∷ [])
  next : {given bytes : List ℕ} {before : LegCall} {earlier : List LegCall} {c : LegCall} → Calls plan input (before ∷ earlier) → HasRowsToCome before → before.saved ≡ Some given → AreHandedOn given bytes → c.from ≡ Some bytes
      → IsAnswered plan input c → Calls plan input (c ∷ before ∷ earlier)

-- what calls have written together, the text of the first first
abbrev pub written : List LegCall → List ℕ
written [] = []
written (c ∷ earlier) = written earlier ++ c.text

-- bytes say a plan, and an input of it
pub record AreRead (plan_bytes input_bytes : List ℕ) (p : PlanData) (i : InputData) : Type 0 where
  pub plan_said : plan_of_bytes plan_bytes ≡ Ok p
  pub input_said : input_of_bytes p input_bytes ≡ Ok i

-- the last of cuts
abbrev pub last_of : List Cut → Option Cut
last_of [] = None
last_of (cut ∷ []) = Some cut
last_of (cut ∷ later ∷ cuts) = last_of (later ∷ cuts)

-- the cut of the last savepoint that a leg takes that comes to where it is to stop: there, or at the end of the input
-- the last on its way
abbrev pub last_cut : List Cut → Stop → Option Cut
last_cut saves Never = last_of saves
last_cut saves (At cut) = Some cut

-- where a call has come to, the cut of the last savepoint that it has taken, and how many it has taken
pub record Reach : Type 0 where
  pub stop : Stop
  pub last : Option Cut
  pub taken : ℕ

-- it has come to where it was to stop, with all its savepoints; or, where it was given up, to one of the cuts that its
-- word spells, with the savepoint there and those before it
pub data IsReach (c : LegCall) : Reach → Type 0 where
  came : {saves : List Cut} {stop : Stop} → c.abandoned ≡ false → saves_said c.saves ≡ Ok saves → stop_said c.stop ≡ Ok stop → IsReach c (record { stop = stop; last = last_cut saves stop; taken = savepoints_to (counts_of saves) stop })
  was_given_up : {saves : List Cut} {passed : ℕ} {cut : Cut} → c.abandoned ≡ true → saves_said c.saves ≡ Ok saves → passed < length saves → cut.counts ≡ slice_index_or (counts_of saves) passed [] → IsReach c (record { stop = At cut; last = Some cut; taken = suc passed })

-- calls have taken so many savepoints together
abbrev pub HaveTaken : List LegCall → ℕ → Type 0
HaveTaken [] number = number ≡ 0
HaveTaken (c ∷ earlier) number = (before : ℕ) × (reach : Reach) × HaveTaken earlier before × IsReach c reach × (number ≡ before + reach.taken)

-- a call that has taken no savepoint gives no bytes, and else it gives those of the savepoint of this number at the cut
-- of the last
abbrev pub AreGivenAt : PlanData → InputData → ℕ → Option Cut → Option (List ℕ) → Type 0
AreGivenAt p i number None bytes = bytes ≡ None
AreGivenAt p i number (Some cut) bytes = (s : Contents) × (bytes ≡ Some (savepoint_bytes s)) × IsSavepoint s × IsSavedAt p i cut.counts number s

-- together with the earlier ones a call has written the lines of just the rows of where it has come to, each once, and
-- it gave its last savepoint, numbered by all that they have taken
pub record AreExactCalls (p : PlanData) (i : InputData) (reach : Reach) (last : LegCall) (earlier : List LegCall) : Type 0 where
  pub rows : List Row
  pub are : AreRowsOf (rows_to p i reach.stop) rows
  pub lines : written (last ∷ earlier) ≡ text_of_rows rows
  pub before : ℕ
  pub taken : HaveTaken earlier before
  pub given : AreGivenAt p i (before + reach.taken) reach.last last.saved

-- so where the last ran to the end of the input, the lines of all of the plan's rows
abbrev pub CallsAreExact : Type 0
CallsAreExact = (plan input : List ℕ) (p : PlanData) (i : InputData) (last : LegCall) (earlier : List LegCall) → AreRead plan input p i → Calls plan input (last ∷ earlier)
    → (reach : Reach) × IsReach last reach × AreExactCalls p i reach last earlier
