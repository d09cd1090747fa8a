-- What one call of `job_leg` has come to.
use Rattle.std.proofs.Common.{◌≡◌, ◌∙◌, ℕ, suc, ◌+◌, ◌<◌, Bool, true, false, List, [], ◌∷◌, length, Option, Some, None, Ok, Err, refl, sym, ap, subst, inl, inr, arith}
use Rattle.std.specs.Prelude.{slice_index_or}
use Rattle.std.specs.Option.{option_map, option_map_or}
use Rattle.std.proofs.lemmas.Bool.{false≢true}
use Rattle.std.proofs.lemmas.List.{length-map}
use Rattle.plan_model.specs.PlanData.{PlanData}
use Rattle.stream_model.specs.InputData.{InputData}
use Rattle.stream_model.specs.Watermarks.{IsBefore, IsCut}
use Rattle.dataflow_laws.specs.Compiled.{cut_to}
use Rattle.dataflow_laws.specs.Inputs.{due_between}
use Rattle.legs.specs.declared.cut.Cut.{Cut}
use Rattle.legs.specs.declared.stop.Stop.{Stop}
use Rattle.legs.specs.declared.stop.Stop.TheVariants.{Never, At}
use Rattle.legs.specs.Stops.{counts_of, until_of}
use Rattle.redistribute.specs.Begins.{HasSnapshot}
use Rattle.redistribute.specs.StartData.{StartData, offsets_of}
use Rattle.redistribute.proofs.Facts.{all_at, rises_to}
use Rattle.savepoint_codec.specs.declared.savepoint.Contents.{Contents}
use Rattle.savepoint_index.specs.Layout.{savepoint_bytes}
use Rattle.leg_tasks.specs.Saved.{IsSavedAt}
use Rattle.core_steps.proofs.Ending.{end_is_cut}
use Rattle.job_texts.specs.Cut.{cut_said}
use Rattle.job_texts.specs.Text.{IsTextOf}
use Rattle.job_texts.specs.declared.fault.JobFault.TheVariants as fault
use Rattle.job_legs.proofs.Facts.{before_end}
use Rattle.job_legs.specs.Reached.{savepoints_to}
use Rattle.job.specs.Leg.{IsLastOf, IsLeft, IsLegTold, IsSavedBy, LegJob, LegRuns, leg_job, saves_said, stop_said}
use Rattle.lineages.specs.Calls.{AreGivenAt, HasRowsToCome, IsReach, LegCall, Reach, last_cut, last_of}
use Rattle.lineages.specs.Calls.IsReach.{came, was_given_up}

-- ---- where a call has come to that has rows to come

no_never : (said : Option Cut) → option_map_or (λ cut. Ok (At cut)) said (Err fault.Cut) ≡ Ok Never → ⊥
no_never None e = cc
no_never (Some cut) e = cc

stops_at : (word : Option (List ℕ)) (saves : List Cut) (stop : Stop) → stop_said word ≡ Ok stop → (word ≡ None → ⊥) → (cut : Cut) × (stop ≡ At cut) × (last_cut saves stop ≡ Some cut)
unfolding stop_said
stops_at None saves stop said some = absurd (some refl)
stops_at (Some word) saves Never said some = absurd (no_never (cut_said word) said)
stops_at (Some word) saves (At cut) said some = (cut, refl, refl)

pub reached_cut : (c : LegCall) (reach : Reach) → IsReach c reach → HasRowsToCome c → (cut : Cut) × (reach.stop ≡ At cut) × (reach.last ≡ Some cut)
reached_cut c reach (was_given_up {cut = cut} up said few is) to_come = (cut, refl, refl)
reached_cut c reach (came done said stopped) (inl up) = absurd (false≢true (sym done ∙ up))
reached_cut c reach (came {saves = saves} {stop = stop} done said stopped) (inr some) = stops_at c.stop saves stop stopped some

-- ---- what a call has come to from a start

pub record Outcome (p : PlanData) (i : InputData) (s : StartData) (c : LegCall) : Type 0 where
  pub reach : Reach
  pub reached : IsReach c reach
  pub no_earlier : IsBefore (offsets_of s) (cut_to i (until_of reach.stop))
  pub is_cut : IsCut i.sources (cut_to i (until_of reach.stop))
  pub text : HasSnapshot p i s → IsTextOf (due_between p i.sources (offsets_of s) (cut_to i (until_of reach.stop))) c.text
  pub given : HasSnapshot p i s → AreGivenAt p i (s.number + reach.taken) reach.last c.saved

module _ (p : PlanData) (i : InputData) (s : StartData) (saves : List Cut) (stop : Stop) where
  abbrev job : LegJob
  job = leg_job p i s (record { saves = saves; stop = stop })

  counts : length (counts_of saves) ≡ length saves
  counts = length-map saves (λ (cut : Cut). cut.counts)

  one_given : (cut : Cut) (others n : ℕ) → suc others ≡ n → (saved : Option Contents) (bytes : Option (List ℕ)) → bytes ≡ option_map savepoint_bytes saved → IsLeft job cut.counts others saved → HasSnapshot p i s → AreGivenAt p i (s.number + n) (Some cut) bytes
  one_given cut others n count None bytes e left has = absurd left
  one_given cut others n count (Some old) bytes e left has = (old, e, left.sound, subst (λ k. IsSavedAt p i cut.counts (s.number + k) old) count (left.saved has))

  last_given : (others n : ℕ) (cuts : List Cut) → others + length cuts ≡ n → (saved : Option Contents) (bytes : Option (List ℕ)) → bytes ≡ option_map savepoint_bytes saved → IsLastOf job others cuts saved → HasSnapshot p i s → AreGivenAt p i (s.number + n) (last_of cuts) bytes
  last_given others n [] count saved bytes e none has = e ∙ ap (option_map savepoint_bytes) none
  last_given others n (cut ∷ []) count saved bytes e left has = one_given cut others n (let next : others + 1 ≡ n = count in omega (arith, next)) saved bytes e left has
  last_given others n (cut ∷ later ∷ cuts) count saved bytes e left has = last_given (suc others) n (later ∷ cuts) (let all : others + suc (suc (length cuts)) ≡ n = count in omega (arith, all)) saved bytes e left has

  all_given : (at : Stop) (saved : Option Contents) (bytes : Option (List ℕ)) → bytes ≡ option_map savepoint_bytes saved → IsSavedBy job at saved → HasSnapshot p i s → AreGivenAt p i (s.number + savepoints_to (counts_of saves) at) (last_cut saves at) bytes
  all_given Never saved bytes e left has = last_given 0 (savepoints_to (counts_of saves) Never) saves (let same = counts in omega (arith, same)) saved bytes e left has
  all_given (At cut) saved bytes e left has = one_given cut (length saves) (savepoints_to (counts_of saves) (At cut)) (let same = counts in omega (arith, same)) saved bytes e left has

  module _ (c : LegCall) (spelled : saves_said c.saves ≡ Ok saves) (stopped : stop_said c.stop ≡ Ok stop) (is : IsCut i.sources (offsets_of s)) (runs : LegRuns job None) where
    outcome_of : (abandoned : Bool) → c.abandoned ≡ abandoned → IsLegTold abandoned job c.text c.saved → Outcome p i s c
    outcome_of false done told = record {
      reach = record { stop = stop; last = last_cut saves stop; taken = savepoints_to (counts_of saves) stop };
      reached = came done spelled stopped;
      no_earlier = before_end i (offsets_of s) stop is runs.0;
      is_cut = end_is_cut i (offsets_of s) stop runs.0;
      text = told.0;
      given = all_given stop told.1.0 c.saved told.1.1 told.1.2;
    }
    outcome_of true up (passed, few, text, (saved, e, left)) =
        let there : List (List ℕ) = slice_index_or (counts_of saves) passed [] in
        let cut : Cut = record { counts = there } in
        let inside : passed < length (counts_of saves) = (let same = counts in omega (arith, few, same)) in
        record {
          reach = record { stop = At cut; last = Some cut; taken = suc passed };
          reached = was_given_up up spelled few refl;
          no_earlier = rises_to (offsets_of s) (counts_of saves) passed runs.1.rises inside;
          is_cut = all_at (IsCut i.sources) (counts_of saves) passed [] runs.1.cuts inside;
          text = text;
          given = one_given cut passed (suc passed) refl saved c.saved e left;
        }

    pub outcome : IsLegTold c.abandoned job c.text c.saved → Outcome p i s c
    outcome told = outcome_of c.abandoned refl told
