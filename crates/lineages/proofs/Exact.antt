-- Legs one after another deliver what is due.
use Rattle.std.proofs.Common.{◌≡◌, ◌∙◌, ℕ, ◌+◌, List, [], ◌∷◌, ◌++◌, Ok, refl, sym, ap, subst}
use Rattle.std.specs.Option.{option_to_list}
use Rattle.answers.proofs.Facts.{no_fault}
use Rattle.plan_model.specs.PlanData.{PlanData}
use Rattle.plan_model.specs.Rows.{AreRowsOf}
use Rattle.plan_model.specs.declared.spec.Row.{Row}
use Rattle.stream_model.specs.InputData.{InputData}
use Rattle.stream_model.specs.Laws.{EndIsDue}
use Rattle.stream_model.specs.Watermarks.{IsBefore, IsCut, empty_cut}
use Rattle.stream_model.specs.PlanRows.{due_rows}
use Rattle.input_changes.specs.Agreement.{HaveSameEntries}
use Rattle.input_changes.specs.Laws.{AgreeingAreSame, EntriesKeepTheCut}
use Rattle.dataflow_laws.specs.Compiled.{cut_to}
use Rattle.dataflow_laws.specs.Inputs.{due_between}
use Rattle.legs.specs.declared.cut.Cut.{Cut}
use Rattle.legs.specs.declared.stop.Stop.{Stop}
use Rattle.legs.specs.declared.stop.Stop.TheVariants.{Never, At}
use Rattle.legs.specs.Stops.{until_of}
use Rattle.redistribute.specs.StartData.{StartData}
use Rattle.redistribute.specs.Begins.{IsFromNothing, IsStartIn}
use Rattle.savepoint_codec.specs.Layout.{IsSavepoint}
use Rattle.savepoint_codec.specs.declared.savepoint.Contents.{Contents}
use Rattle.savepoint_index.specs.Layout.{savepoint_bytes}
use Rattle.restore.specs.Answer.{start_of, start_or_fault}
use Rattle.restarts.specs.Laws.{IsStartAt, SnapshotsRestart, savepoint_at}
use Rattle.leg_tasks.specs.Saved.{IsSavedAt, SavedAtIsOne}
use Rattle.core_steps.proofs.Delivered.{none_at_first}
use Rattle.job_legs.specs.Laws.{NothingDueAtFirst, RowsAddUp}
use Rattle.job_legs.specs.Ending.{rows_to}
use Rattle.job_legs.proofs.Facts.{come_to}
use Rattle.lineages.specs.Lineage.{BytesRestart, GoesOnFrom, Headline, LegEnd, Lineage, LineagesAreExact, OneSavepoint, delivered, leg_rows, leg_savepoint, savepoints_in, savepoints_of}
use Rattle.lineages.specs.Lineage.Lineage.{begins, goes_on}
use Rattle.lineages.specs.Changes.{HeadlineOverInputs, LineageOverInputs, LineagesOverInputsAreExact}
use Rattle.lineages.specs.Changes.LineageOverInputs.{begins_on, goes_on_with}
use Rattle.lineages.proofs.Changes.{AreFit, IsCarried, OneContent, accepted_at, has_passed, is_carried}
use Rattle.lineages.proofs.Gives.{Delivers, gives}

-- ---- a start from a savepoint

pub bytes_restart : SnapshotsRestart → OneContent → BytesRestart
bytes_restart restart one p i cut number old s plan input belongs is at savepoint from =
    let held = savepoint_at p i cut at.windows number in
    let checked : start_or_fault p i held ≡ Ok s = accepted_at one p i i cut number old s at savepoint from in
    let start = (no_fault _ (start_of p held) s checked).1 in
    subst (IsStartAt p i cut number) start (restart p i cut at.windows number (record { plan = plan; input = input; belongs = belongs; cut = is; windows = at.snapshot }) (has_passed p i held s checked).number)

-- ---- where a leg begins

module _ (p : PlanData) (i : InputData) (s : StartData) where
  pub at_first : IsStartIn p i s → IsFromNothing i s → IsStartAt p i (empty_cut i.sources) 0 s
  at_first starts nothing = record { in_input = starts; snapshot = none_at_first p i s nothing; offsets = nothing.offsets; number = nothing.number }

  -- where it goes on from a cut's savepoint, it begins at that cut, with its snapshot
  pub from_savepoint : AreFit p i → SnapshotsRestart → OneContent
      → (cut : List (List ℕ)) (number : ℕ) (old : Contents) → IsCut i.sources cut → IsSavedAt p i cut number old → IsSavepoint old → GoesOnFrom p i old s → IsStartAt p i cut number s
  from_savepoint fit restart one cut number old is at savepoint from = bytes_restart restart one p i cut number old s fit.plan fit.input fit.belongs is at savepoint from

-- ---- a leg from a cut, with its snapshot

module _ (p : PlanData) (i : InputData) (s : StartData) (stop : Stop) (e : LegEnd) (leg : Delivers p i s stop e) (b : List (List ℕ)) (number : ℕ) (at : IsStartAt p i b number s) where
  -- it leaves the savepoint of the cut that it has come to
  pub saved : (cut : Cut) → stop ≡ At cut → IsSavedAt p i cut.counts (number + savepoints_of e) (leg_savepoint e)
  saved cut same = subst (λ n. IsSavedAt p i cut.counts (n + savepoints_of e) (leg_savepoint e)) at.number (leg.saved at.snapshot cut same)

  -- and adds the rows that become due
  added : RowsAddUp → (before : List Row) → AreRowsOf (due_rows p i.sources b) before → AreRowsOf (due_rows p i.sources (cut_to i (until_of stop))) (before ++ leg_rows e)
  added add before due =
      let end = cut_to i (until_of stop) in
      add p i b end before (leg_rows e) leg.fit.input (subst (λ c. IsBefore c end) at.offsets leg.no_earlier) leg.is_cut due (subst (λ c. AreRowsOf (due_between p i.sources c end) (leg_rows e)) at.offsets (leg.rows at.snapshot))

-- ---- all of them

-- what holds of the last
unfoldable pub LastIs : (LegEnd → Type 0) → List LegEnd → Type 0
LastIs P [] = Unit {0}
LastIs P (e ∷ earlier) = P e

pub record Comes (p : PlanData) (i : InputData) (stop : Stop) (legs : List LegEnd) : Type 0 where
  pub fit : AreFit p i
  pub is_cut : IsCut i.sources (cut_to i (until_of stop))
  pub due : AreRowsOf (due_rows p i.sources (cut_to i (until_of stop))) (delivered legs)
  pub rows : AreRowsOf (rows_to p i stop) (delivered legs)
  pub saved : (cut : Cut) → stop ≡ At cut → LastIs (λ e. IsSavedAt p i cut.counts (savepoints_in legs) (leg_savepoint e)) legs

-- the laws that carry a job from leg to leg
pub record Carry : Type 0 where
  pub none : NothingDueAtFirst
  pub add : RowsAddUp
  pub restart : SnapshotsRestart
  pub one : OneContent
  pub end : EndIsDue
  pub agreeing : AgreeingAreSame
  pub keep : EntriesKeepTheCut

-- rows that are due at a cut by one input are due there by another
pub due_too : (p : PlanData) (old new : InputData) (cut : List (List ℕ)) (number : ℕ) (saved : Contents) (rows : List Row) → IsCarried p old new cut number saved → AreRowsOf (due_rows p old.sources cut) rows → AreRowsOf (due_rows p new.sources cut) rows
due_too p old new cut number saved rows carried due = λ q. due q ∙ ap option_to_list (carried.due q)

module _ (carry : Carry) (p : PlanData) where
  after : (i : InputData) (s : StartData) (stop : Stop) (e : LegEnd) (earlier : List LegEnd) → Delivers p i s stop e → (b : List (List ℕ)) → IsStartAt p i b (savepoints_in earlier) s → AreRowsOf (due_rows p i.sources b) (delivered earlier) → Comes p i stop (e ∷ earlier)
  unfolding LastIs
  after i s stop e earlier leg b at due =
      let fit = leg.fit in
      let now = added p i s stop e leg b (savepoints_in earlier) at carry.add (delivered earlier) due in
      record {
        fit = fit;
        is_cut = leg.is_cut;
        due = now;
        rows = come_to carry.end p i stop (delivered (e ∷ earlier)) fit.plan fit.input fit.belongs now;
        saved = saved p i s stop e leg b (savepoints_in earlier) at;
      }

  -- what legs that have come to a cut leave to the next, which may have another input
  pub left_to : (old i : InputData) (cut : Cut) (before : LegEnd) (earlier : List LegEnd) (s : StartData) → Comes p old (At cut) (before ∷ earlier) → AreFit p i → HaveSameEntries old i cut.counts → IsSavepoint (leg_savepoint before)
      → GoesOnFrom p i (leg_savepoint before) s → IsCarried p old i cut.counts (savepoints_in (before ∷ earlier)) (leg_savepoint before)
  unfolding LastIs
  left_to old i cut before earlier s c fit same savepoint from =
      is_carried carry.agreeing carry.keep carry.restart carry.one p old i cut.counts (savepoints_in (before ∷ earlier)) (leg_savepoint before) s c.fit fit c.is_cut (c.saved cut refl) savepoint same from

  pub comes : (i : InputData) (stop : Stop) (legs : List LegEnd) → LineageOverInputs p i stop legs → Comes p i stop legs
  comes i stop [] l = elim l [ ]
  comes i stop (e ∷ []) (begins_on {s = s} nothing leg) =
      let d = gives p i s stop e leg in
      after i s stop e [] d (empty_cut i.sources) (at_first p i s d.starts nothing) (λ q. sym (ap option_to_list (carry.none p i q d.fit.orderly)))
  comes i stop (e ∷ before ∷ earlier) (goes_on_with {old = old} {cut = cut} {s = s} legs same savepoint from leg) =
      let c = comes old (At cut) (before ∷ earlier) legs in
      let d = gives p i s stop e leg in
      let there = left_to old i cut before earlier s c d.fit same savepoint from in
      let number = savepoints_in (before ∷ earlier) in
      let at = from_savepoint p i s d.fit carry.restart carry.one cut.counts number (leg_savepoint before) there.is_cut there.saved_at savepoint from in
      after i s stop e (before ∷ earlier) d cut.counts at (due_too p old i cut.counts number (leg_savepoint before) (delivered (before ∷ earlier)) there c.due)

pub over_inputs_exact : Carry → LineagesOverInputsAreExact
unfolding LastIs
over_inputs_exact carry p i stop last earlier l =
    let c = comes carry p i stop (last ∷ earlier) l in
    record { rows = c.rows; saved = c.saved }

pub headline_over_inputs : LineagesOverInputsAreExact → HeadlineOverInputs
headline_over_inputs made p i (e ∷ earlier) l = (made p i Never e earlier l).rows
headline_over_inputs made p i [] l = elim l [ ]

-- ---- one input for all of them

pub one_input : (p : PlanData) (i : InputData) (stop : Stop) (legs : List LegEnd) → Lineage p i stop legs → LineageOverInputs p i stop legs
one_input p i stop [] l = elim l [ ]
one_input p i stop (e ∷ []) (begins nothing leg) = begins_on nothing leg
one_input p i stop (e ∷ before ∷ earlier) (goes_on {cut = cut} legs savepoint from leg) = goes_on_with (one_input p i (At cut) (before ∷ earlier) legs) refl savepoint from leg

pub exact : LineagesOverInputsAreExact → LineagesAreExact
exact made p i stop last earlier l = made p i stop last earlier (one_input p i stop (last ∷ earlier) l)

pub headline : HeadlineOverInputs → Headline
headline made p i legs l = made p i legs (one_input p i Never legs l)

-- ---- legs from one snapshot to one cut

pub one_savepoint : SavedAtIsOne → OneSavepoint
one_savepoint one p i cut number end s other e d at bt leg next same =
    let a = saved p i s (At end) e (gives p i s (At end) e leg) cut number at end refl in
    let b = saved p i other (At end) d (gives p i other (At end) d next) cut number bt end refl in
    ap savepoint_bytes (one p i end.counts (number + savepoints_of e) (leg_savepoint e) (leg_savepoint d) a (subst (λ n. IsSavedAt p i end.counts (number + n) (leg_savepoint d)) (sym same) b))
