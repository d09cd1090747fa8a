-- What a leg gives, by how it ended.
use Rattle.std.proofs.Common.{[], ◌∷◌, ◌≡◌, ◌∙◌, ◌+◌, ℕ, zero, suc, Bool, true, false, List, length, Option, None, Some, Err, option_map, string_bytes, ap, inl, inr, refl, sym, subst, arith}
use Rattle.std.proofs.lemmas.List.{length-map}
use Rattle.std.specs.Prelude.{IfSome, slice_index_or}
use Rattle.std.specs.Io.KnownBytes.{Appends}
use Rattle.std.proofs.lemmas.Bool.{false≢true}
use Rattle.plan_model.specs.PlanData.{PlanData}
use Rattle.plan_model.specs.Rows.{AreRowsOf}
use Rattle.plan_model.specs.declared.spec.Row.{Row}
use Rattle.stream_model.specs.InputData.{InputData}
use Rattle.dataflow_model.specs.Leg.Until.{TillAsked}
use Rattle.dataflow_laws.specs.Inputs.{due_between}
use Rattle.dataflow_laws.specs.Compiled.{cut_to}
use Rattle.legs.specs.declared.cut.Cut.{Cut}
use Rattle.legs.specs.declared.fault.LegFault.{LegFault}
use Rattle.legs.specs.declared.fault.LegFault.TheVariants.{StopRange, SaveRange, Memory, Threads}
use Rattle.legs.specs.declared.stop.Stop.{Stop}
use Rattle.legs.specs.declared.stop.Stop.TheVariants.{Never, At}
use Rattle.legs.specs.Stops.{counts_of, until_of}
use Rattle.savepoint_codec.specs.Layout.{IsSavepoint}
use Rattle.savepoint_codec.specs.declared.savepoint.Contents.{Contents}
use Rattle.savepoint_index.specs.Layout.{savepoint_bytes}
use Rattle.redistribute.specs.StartData.{StartData, offsets_of}
use Rattle.redistribute.specs.Stopping.{CanGo, CanSaveAt}
use Rattle.redistribute.proofs.Facts.{no_saves}
use Rattle.leg_tasks.specs.Saved.{IsSavedAt}
use Rattle.core_steps.specs.declared.finish.Finish.{Finish}
use Rattle.core_steps.specs.declared.finish.Finish.TheVariants.{Ended, Stopped, Abandoned}
use Rattle.core_steps.specs.declared.sealing.Sealed.{Sealed}
use Rattle.core_steps.specs.Ending.{HasGone, HasSealed, HasSealedLast, IsEndOf}
use Rattle.core_steps.specs.Finishing.{number_after}
use Rattle.core_steps.proofs.Delivered.{asked_legs_end}
use Rattle.core_steps.proofs.Ending.{comes_there, never_asked, numbered}
use Rattle.core_steps.proofs.OnWay.{none_abandoned}
use Rattle.thread_runner.specs.declared.stop.Stop.{Stop as ThreadStop}
use Rattle.thread_runner.specs.declared.stop.Stop.TheVariants as on_threads
use Rattle.thread_runner.specs.Refusal.{IsThreadRefusal}
use Rattle.thread_runner.specs.Stops as threads
use Rattle.job_texts.specs.Fault.{leg_fault}
use Rattle.job_legs.specs.Reached.{rows_of}
use Rattle.job.specs.declared.leg.LegEnd.{LegEnd}
use Rattle.job.specs.Leg.{LegAims, LegJob, AreLegRows, AreRowsTo, GivesLeg, IsGivenBy, IsLastOf, IsLeft, IsLegDone, IsLegTold, IsSavedBy, IsTextTo, LegRuns, is_given_up, last_saved, left_in, leg_end, leg_job}
use Rattle.job.specs.declared.leg.Aims.{Aims}
use Rattle.job.specs.declared.leg.LegRows.{LegRows}
use Rattle.job.specs.Asked.{AreAims, EndsSo, IsEndSo, aims_in, may_ask, stop_in}

-- what follows of a leg wherever it stops follows of one that may be asked to
pub ends_on : (P Q : LegJob → Type 0) (asked : Bool) (p : PlanData) (i : InputData) (s : StartData) (aims : LegAims) → ((at : LegAims) → P (leg_job p i s at) → Q (leg_job p i s at)) → EndsSo asked P (leg_job p i s aims) → EndsSo asked Q (leg_job p i s aims)
ends_on P Q false p i s aims on ends = on aims ends
ends_on P Q true p i s aims on (inl ends) = inl (on aims ends)
ends_on P Q true p i s aims on (inr (cut, can, ends)) = inr (cut, can, on (record aims { stop = At cut }) ends)

module _ (p : PlanData) (i : InputData) (s : StartData) where
  abbrev pub job_to : List Cut → Stop → LegJob
  job_to saves stop = record { plan = p; input = i; start = s; saves = saves; stop = stop }

  module _ (saves : List Cut) (stop : Stop) where
    rows_are : (stopped : Bool) (rows : List Row) → HasGone p i s (until_of stop) stopped rows → AreRowsTo (job_to saves stop) (leg_end (job_to saves stop)) rows
    rows_are stopped rows gone =
        let there : gone.cut ≡ cut_to i (until_of stop) = comes_there i (offsets_of s) (until_of stop) stopped gone.cut (never_asked stop) gone.comes in
        λ has. subst (λ c. AreRowsOf (due_between p i.sources (offsets_of s) c) rows) there (gone.delivered has)

    saved : (at : Stop) → stop ≡ at → (rows : List Row) (left : Contents) → IsSavepoint left → IsEndOf p i s (counts_of saves) (until_of stop) (Stopped rows left) → IsSavedBy (job_to saves stop) at (Some left)
    saved Never same rows left sound e = absurd (false≢true (sym (e.0.comes.to_end (ap until_of same))))
    saved (At cut) same rows left sound e =
        let here = e.0.comes.to_cut cut.counts (ap until_of same) in
        let long = length-map saves (λ (c : Cut). c.counts) in
        let next : number_after s.number (counts_of saves) ≡ s.number + suc (length saves) = sym (numbered s.number (counts_of saves)) ∙ (let flat : s.number + length (counts_of saves) + 1 ≡ s.number + suc (length saves) = omega (arith, long) in flat) in
        record { sound = sound; saved = λ has. subst (λ n. IsSavedAt p i cut.counts n left) next (subst (λ c. IsSavedAt p i c (number_after s.number (counts_of saves)) left) here.1 (e.1 has)) }

    -- what is sealed at one of the savepoints on the way
    seal_of : (x : Sealed) → IsSavepoint x.savepoint → (h : HasSealed p i s (counts_of saves) x) → IsLeft (job_to saves stop) (slice_index_or (counts_of saves) h.passed []) h.passed (Some x.savepoint)
    seal_of x sound h = record { sound = sound; saved = λ has. subst (λ n. IsSavedAt p i (slice_index_or (counts_of saves) h.passed []) (s.number + n) x.savepoint) h.barrier (h.saved has) }

    of_abandoned : (x : Sealed) → IsSavepoint x.savepoint → HasSealed p i s (counts_of saves) x → AreLegRows true (job_to saves stop) x.rows (Some x.savepoint)
    of_abandoned x sound h =
        let few = h.few in
        let long = length-map saves (λ (c : Cut). c.counts) in
        (h.passed, omega (arith, few, long), h.delivered, seal_of x sound h)

    -- the last of cuts is what is left at the end
    last_of : (others n : ℕ) (cuts : List Cut) (left : Option Contents) → suc n ≡ length cuts → IsLeft (job_to saves stop) (slice_index_or (counts_of cuts) n []) (others + n) left → IsLastOf (job_to saves stop) others cuts left
    last_of others n [] left long is = absurd (omega (arith, long))
    last_of others n (cut ∷ []) left long is =
        let zero_is : n ≡ 0 = omega (arith, long) in
        let at : others + n ≡ others = omega (arith, zero_is) in
        subst (λ k. IsLeft (job_to saves stop) cut.counts k left) at (subst (λ k. IsLeft (job_to saves stop) (slice_index_or (counts_of (cut ∷ [])) k []) (others + n) left) zero_is is)
    last_of others zero (cut ∷ next ∷ cuts) left long is = absurd (omega (arith, long))
    last_of others (suc n) (cut ∷ next ∷ cuts) left long is =
        let at : others + suc n ≡ suc others + n = omega (arith) in
        last_of (suc others) n (next ∷ cuts) left (omega (arith, long)) (subst (λ k. IsLeft (job_to saves stop) (slice_index_or (counts_of (next ∷ cuts)) n []) k left) at is)

    none_left : (cuts : List Cut) → counts_of cuts ≡ [] → IsLastOf (job_to saves stop) 0 cuts None
    none_left [] none = refl
    none_left (cut ∷ cuts) none = absurd cc

    ended : (sealed : Option Sealed) → HasSealedLast p i s (counts_of saves) sealed → IfSome sealed (λ x. IsSavepoint x.savepoint) → IsLastOf (job_to saves stop) 0 saves (option_map (λ x. x.savepoint) sealed)
    ended None none sound = none_left saves none
    ended (Some x) (last, h) sound =
        let barrier = h.barrier in
        let long = length-map saves (λ (c : Cut). c.counts) in
        last_of 0 h.passed saves (Some x.savepoint) (omega (arith, last, barrier, long)) (subst (λ k. IsLeft (job_to saves stop) (slice_index_or (counts_of saves) h.passed []) k (Some x.savepoint)) (let same : h.passed ≡ 0 + h.passed = omega (arith) in same) (seal_of x sound h))

    unstopped : (at : Stop) → stop ≡ at → (rows : List Row) (sealed : Option Sealed) → HasGone p i s (until_of stop) false rows → HasSealedLast p i s (counts_of saves) sealed → IfSome sealed (λ x. IsSavepoint x.savepoint)
        → IsSavedBy (job_to saves stop) at (option_map (λ x. x.savepoint) sealed)
    unstopped Never same rows sealed gone all sound = ended sealed all sound
    unstopped (At cut) same rows sealed gone all sound = absurd (false≢true (gone.comes.to_cut cut.counts (ap until_of same)).0)

    -- by how it ended
    pub gives_to : (finish : Finish) → IsEndOf p i s (counts_of saves) (until_of stop) finish → IfSome (last_saved finish) IsSavepoint → AreLegRows (is_given_up finish) (job_to saves stop) (rows_of finish) (last_saved finish)
    gives_to (Ended rows None) e sound = (rows_are false rows e.0, unstopped stop refl rows None e.0 e.1 tt)
    gives_to (Ended rows (Some x)) e sound = (rows_are false rows e.0, unstopped stop refl rows (Some x) e.0 e.1 sound)
    gives_to (Stopped rows left) e sound = (rows_are true rows e.0, saved stop refl rows left sound e)
    gives_to (Abandoned x) e sound = of_abandoned x sound e

  -- a leg on threads can go so far, and take its savepoints, just where one can that is to stop so
  pub can_run : (saves : List Cut) (stop : ThreadStop) → CanGo i.sources (offsets_of s) (threads.until_of stop) → CanSaveAt i.sources (offsets_of s) (counts_of saves) (threads.until_of stop) → (may_ask stop ≡ true → saves ≡ [])
      → LegRuns (job_to saves (stop_in stop)) None
  can_run saves on_threads.Never can save none = (can, save)
  can_run saves (on_threads.At cut) can save none = (can, save)
  can_run saves (on_threads.Asked word) can save none = (tt, subst (λ (cuts : List Cut). CanSaveAt i.sources (offsets_of s) (counts_of cuts) (until_of Never)) (sym (none refl)) (no_saves i.sources (offsets_of s) (until_of Never)))

  -- why it has no answer
  module _ {X : Type 0} (Is : X → Type 0) (saves : List Cut) where
    halted : (stop : ThreadStop) (fault why : LegFault) → fault ≡ why → GivesLeg Is (job_to saves (stop_in stop)) (Err (leg_fault why)) → GivesLeg Is (job_to saves (stop_in stop)) (Err (leg_fault fault))
    halted stop fault why is gives = subst (λ (f : LegFault). GivesLeg Is (job_to saves (stop_in stop)) (Err (leg_fault f))) (sym is) gives

    pub halts : (stop : ThreadStop) (fault : LegFault) → (may_ask stop ≡ true → saves ≡ []) → IsThreadRefusal i.sources (offsets_of s) (counts_of saves) (threads.until_of stop) fault → GivesLeg Is (job_to saves (stop_in stop)) (Err (leg_fault fault))
    halts on_threads.Never fault none (inl (inl (range, not))) = absurd (not tt)
    halts (on_threads.At cut) fault none (inl (inl (range, not))) = halted (on_threads.At cut) fault StopRange range (inl (StopRange, refl, not))
    halts (on_threads.Asked word) fault none (inl (inl (range, not))) = absurd (not tt)
    halts on_threads.Never fault none (inl (inr (inl (range, can, not)))) = halted on_threads.Never fault SaveRange range (inl (SaveRange, refl, (can, not)))
    halts (on_threads.At cut) fault none (inl (inr (inl (range, can, not)))) = halted (on_threads.At cut) fault SaveRange range (inl (SaveRange, refl, (can, not)))
    halts (on_threads.Asked word) fault none (inl (inr (inl (range, can, not)))) = absurd (not (subst (λ (cuts : List Cut). CanSaveAt i.sources (offsets_of s) (counts_of cuts) (threads.until_of (on_threads.Asked word))) (sym (none refl)) (no_saves i.sources (offsets_of s) (threads.until_of (on_threads.Asked word)))))
    halts stop fault none (inl (inr (inr (memory, can, save)))) = halted stop fault Memory memory tt
    halts stop fault none (inr (wanted, can, save)) = halted stop fault Threads wanted (inr refl)

  -- what a leg on threads gives by how it ended
  abbrev GivenBy : Finish → LegJob → Type 0
  GivenBy finish leg = AreLegRows (is_given_up finish) leg (rows_of finish) (last_saved finish)

  -- one that may be asked to stop takes no savepoint on its way
  gives_asked : (finish : Finish) → IsEndOf p i s [] TillAsked finish → IfSome (last_saved finish) IsSavepoint → EndsSo true (GivenBy finish) (job_to [] Never)
  gives_asked (Ended rows None) e sound = inl (asked_legs_end p i s (Ended rows None) e, refl)
  gives_asked (Ended rows (Some x)) e sound = absurd (let few = e.1.1.few in omega (arith, few))
  gives_asked (Stopped rows left) e sound =
      let there = asked_legs_end p i s (Stopped rows left) e in
      let end : Cut = record { counts = there.0 } in
      inr (end, ((there.1, there.2), no_saves i.sources (offsets_of s) (until_of (At end))), ((λ has. (there.3 has).0), record { sound = sound; saved = λ has. (there.3 has).1 }))
  gives_asked (Abandoned x) e sound = absurd (none_abandoned p i s TillAsked x e)

  gives_so : (saves : List Cut) (stop : ThreadStop) (finish : Finish) → IsEndOf p i s (counts_of saves) (threads.until_of stop) finish → IfSome (last_saved finish) IsSavepoint → (may_ask stop ≡ true → saves ≡ [])
      → EndsSo (may_ask stop) (GivenBy finish) (job_to saves (stop_in stop))
  gives_so saves on_threads.Never finish e sound none = gives_to saves Never finish e sound
  gives_so saves (on_threads.At cut) finish e sound none = gives_to saves (At cut) finish e sound
  gives_so saves (on_threads.Asked word) finish e sound none =
      subst (λ (cuts : List Cut). EndsSo true (GivenBy finish) (job_to cuts Never)) (sym (none refl)) (gives_asked finish (subst (λ (cuts : List Cut). IsEndOf p i s (counts_of cuts) TillAsked finish) (none refl) e) sound)

  pub gives : (aims : Aims) (finish : Finish) (given : LegRows) → AreAims aims → IsEndOf p i s (counts_of aims.saves) (threads.until_of aims.stop) finish → IsGivenBy finish given → IfSome given.savepoint IsSavepoint
      → EndsSo (may_ask aims.stop) (λ leg. AreLegRows given.abandoned leg given.rows.items given.savepoint) (leg_job p i s (aims_in aims))
  gives aims finish given none e is sound =
      let so = gives_so aims.saves aims.stop finish e (subst (λ (left : Option Contents). IfSome left IsSavepoint) is.saved sound) none in
      let end = leg_job p i s (aims_in aims) in
      subst (λ (b : Bool). EndsSo (may_ask aims.stop) (λ leg. AreLegRows b leg given.rows.items given.savepoint) end) (sym is.given_up)
      (subst (λ (rows : List Row). EndsSo (may_ask aims.stop) (λ leg. AreLegRows (is_given_up finish) leg rows given.savepoint) end) (sym is.rows)
      (subst (λ (left : Option Contents). EndsSo (may_ask aims.stop) (λ leg. AreLegRows (is_given_up finish) leg (rows_of finish) left) end) (sym is.saved) so))

-- what is told of the rows of a leg, and of what it leaves
pub told_of_rows : (abandoned : Bool) (job : LegJob) (rows : List Row) (left : Option Contents) (text : List ℕ) (bytes : Option (List ℕ)) → ((cut : List (List ℕ)) → AreRowsTo job cut rows → IsTextTo job cut text) → bytes ≡ option_map savepoint_bytes left
    → AreLegRows abandoned job rows left → IsLegTold abandoned job text bytes
told_of_rows false job rows left text bytes tells spelled are = (tells (leg_end job) are.0, (left, spelled, are.1))
told_of_rows true job rows left text bytes tells spelled (passed, few, are, is) = (passed, few, tells (slice_index_or (counts_of job.saves) passed []) are, (left, spelled, is))

-- a leg that may be asked to stop is done where its text was written
pub done_asked : (job : LegJob) (end : LegEnd) (old new : Option (List ℕ)) → Appends old new (string_bytes end.text) → IsEndSo true job end → EndsSo true (λ leg. IsLegDone old new leg (left_in end.out)) job
done_asked job end old new grown (inl ends) = inl (string_bytes end.text, ends, grown)
done_asked job end old new grown (inr (cut, can, ends)) = inr (cut, can, (string_bytes end.text, ends, grown))
