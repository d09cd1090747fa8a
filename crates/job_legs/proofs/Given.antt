-- What a leg gives that goes from a cut.
use Rattle.std.proofs.Common.{◌≡◌, ◌∙◌, ℕ, ◌+◌, ◌≤◌, ◌^◌, Bool, true, false, List, [], Some, None, length, Result, Ok, Err, MatchResult, refl, sym, ap, subst, inl, inr, arith}
use Rattle.std.specs.Prelude.{slice_index_or}
use Rattle.std.proofs.lemmas.Bool.{false≢true}
use Rattle.plan_model.specs.PlanData.{PlanData, IsPlan}
use Rattle.plan_model.specs.Rows.{AreRowsOf}
use Rattle.plan_model.specs.declared.spec.Row.{Row}
use Rattle.stream_model.specs.InputData.{InputData, IsInput, BelongsTo}
use Rattle.stream_model.specs.Watermarks.{IsBefore, IsCut}
use Rattle.dataflow_laws.specs.Inputs.{due_between}
use Rattle.dataflow_laws.specs.Compiled.{cut_to}
use Rattle.legs.specs.declared.cut.Cut.{Cut}
use Rattle.legs.specs.declared.fault.LegFault.{LegFault}
use Rattle.legs.specs.declared.stop.Stop.{Stop}
use Rattle.legs.specs.declared.stop.Stop.TheVariants.{Never, At}
use Rattle.legs.specs.Requirements.{stops}
use Rattle.legs.specs.Stops.{until_of}
use Rattle.redistribute.specs.StartData.{StartData, offsets_of}
use Rattle.redistribute.specs.Stopping.{CanSaveAt, CanStop}
use Rattle.redistribute.specs.Snapshots.{saved_sources}
use Rattle.gather.specs.Saved.{savepoint_of}
use Rattle.savepoint_codec.specs.declared.savepoint.Contents.{Contents}
use Rattle.leg_tasks.specs.Saved as left
use Rattle.core_steps.specs.declared.finish.Finish.{Finish}
use Rattle.core_steps.specs.declared.finish.Finish.TheVariants.{Ended, Stopped, Abandoned}
use Rattle.core_steps.specs.declared.sealing.Sealed.{Sealed}
use Rattle.core_steps.specs.Ending.{HasGone, HasSealed, IsEndOf}
use Rattle.core_steps.specs.Finishing.{number_after}
use Rattle.core_steps.proofs.Ending.{comes_there, never_asked, numbered, stops_so}
use Rattle.restarts.specs.Laws.{IsStartAt}
use Rattle.restarts.specs.Restart.{CanRestart}
use Rattle.job_legs.specs.Reached.{IsGivenUp, IsLeftBy, IsLegGiven, savepoints_to}
use Rattle.job_legs.specs.Running.{Forbids, IsStepRefusal}
use Rattle.job_legs.specs.Ways.{AnswersLeg, IsWayRefusal}

module _ (p : PlanData) (i : InputData) (plan : IsPlan p) (input : IsInput i) (belongs : BelongsTo p i) (cut : List (List ℕ)) (number : ℕ) (s : StartData) (at : IsStartAt p i cut number s) (few : number ≤ 2 ^ 62 + 1024)
    (saves : List (List (List ℕ))) (stop : Stop) where
  small : (m : ℕ) → m ≤ 1025 → number + m ≤ 2 ^ 63
  small m h = omega (arith, few, h)

  saved : (end : List (List ℕ)) (m : ℕ) (savepoint : Contents) → IsCut i.sources end → m ≤ 1025 → left.IsSavedAt p i end (s.number + m) savepoint → CanRestart p i end (number + m) savepoint
  saved end m savepoint is most w = record {
    windows = w.windows;
    left = record { plan = plan; input = input; belongs = belongs; cut = is; windows = w.snapshot };
    few = small m most;
    is = w.is ∙ ap (λ n. savepoint_of p (saved_sources i.sources end) w.windows (n + m)) at.number;
  }

  can_from : CanStop i.sources (offsets_of s) stop → CanStop i.sources cut stop
  can_from can = subst (λ b. CanStop i.sources b stop) at.offsets can

  save_from : CanSaveAt i.sources (offsets_of s) saves (until_of stop) → CanSaveAt i.sources cut saves (until_of stop)
  save_from can = subst (λ b. CanSaveAt i.sources b saves (until_of stop)) at.offsets can

  went : (has_stopped : Bool) (rows : List Row) → HasGone p i s (until_of stop) has_stopped rows → AreRowsOf (due_between p i.sources cut (cut_to i (until_of stop))) rows
  went has_stopped rows gone =
      let to : gone.cut ≡ cut_to i (until_of stop) = comes_there i (offsets_of s) (until_of stop) has_stopped gone.cut (never_asked stop) gone.comes in
      subst (λ b. AreRowsOf (due_between p i.sources b (cut_to i (until_of stop))) rows) at.offsets (subst (λ c. AreRowsOf (due_between p i.sources (offsets_of s) c) rows) to (gone.delivered at.snapshot))

  so_stopped : (has_stopped : Bool) (rows : List Row) → HasGone p i s (until_of stop) has_stopped rows → has_stopped ≡ stops stop
  so_stopped has_stopped rows gone = stops_so i (offsets_of s) stop has_stopped gone.cut gone.comes

  -- one that has not stopped leaves nothing
  unstopped : (at : Stop) → false ≡ stops at → IsLeftBy p i (number + savepoints_to saves at) at None
  unstopped Never so = refl
  unstopped (At end) so = absurd (false≢true so)

  is_cut_of : (at : Stop) (end : Cut) → at ≡ At end → CanStop i.sources cut at → IsCut i.sources end.counts
  is_cut_of at end same can = (subst (CanStop i.sources cut) same can).0

  -- and one that has leaves the savepoint of its cut
  left_behind : (at : Stop) → stop ≡ at → true ≡ stops at → CanStop i.sources cut stop → length saves ≤ 1024 → (rows : List Row) (savepoint : Contents) → IsEndOf p i s saves (until_of stop) (Stopped rows savepoint)
      → IsLeftBy p i (number + savepoints_to saves at) at (Some savepoint)
  left_behind Never same so can most rows savepoint e = absurd (false≢true (sym so))
  left_behind (At end) same so can most rows savepoint e =
      let here = e.0.comes.to_cut end.counts (ap until_of same) in
      let next : s.number + (length saves + 1) ≡ number_after s.number saves = (let flat : s.number + (length saves + 1) ≡ s.number + length saves + 1 = omega (arith) in flat ∙ numbered s.number saves) in
      let there = subst (λ c. left.IsSavedAt p i c (number_after s.number saves) savepoint) here.1 (e.1 at.snapshot) in
      saved end.counts (length saves + 1) savepoint (is_cut_of stop end same can) (omega (arith, most)) (subst (λ n. left.IsSavedAt p i end.counts n savepoint) (sym next) there)

  given_up : length saves ≤ 1024 → (x : Sealed) → HasSealed p i s saves x → IsGivenUp p i cut number saves x
  given_up most x e =
      let barrier = e.barrier in
      let few_passed = e.few in
      record {
        passed = e.passed;
        barrier = e.barrier;
        few = e.few;
        no_earlier = subst (λ b. IsBefore b (slice_index_or saves e.passed [])) at.offsets e.no_earlier;
        delivered = subst (λ b. AreRowsOf (due_between p i.sources b (slice_index_or saves e.passed [])) x.rows) at.offsets (e.delivered at.snapshot);
        saved = saved (slice_index_or saves e.passed []) x.barrier x.savepoint e.is_cut (omega (arith, barrier, few_passed, most)) (e.saved at.snapshot);
      }

  pub given : (other : LegFault → Type 0) (result : Result Finish LegFault) → AnswersLeg other p i s saves stop result → MatchResult result (IsLegGiven p i cut number saves stop) (IsStepRefusal other i cut saves stop)
  given other (Ok (Ended rows sealed)) a = record {
    can = can_from a.stops;
    save = save_from a.saves_so;
    given = record { delivered = went false rows a.ends.0; left = unstopped stop (so_stopped false rows a.ends.0) };
  }
  given other (Ok (Stopped rows savepoint)) a = record {
    can = can_from a.stops;
    save = save_from a.saves_so;
    given = record { delivered = went true rows a.ends.0; left = left_behind stop refl (so_stopped true rows a.ends.0) (can_from a.stops) a.saves_so.few rows savepoint a.ends };
  }
  given other (Ok (Abandoned sealed)) a = record {
    can = can_from a.stops;
    save = save_from a.saves_so;
    given = given_up a.saves_so.few sealed a.ends;
  }
  given other (Err fault) a = why a.refused
    where
      why : IsWayRefusal other i.sources (offsets_of s) saves stop fault → IsStepRefusal other i cut saves stop fault
      why (inl (inl cannot)) = inl (subst (Forbids i.sources cut saves stop) (sym cannot.0) (λ can. cannot.1 (subst (λ b. CanStop i.sources b stop) (sym at.offsets) can)))
      why (inl (inr (inl save))) = inl (subst (Forbids i.sources cut saves stop) (sym save.0) (can_from save.1, λ can. save.2 (subst (λ b. CanSaveAt i.sources b saves (until_of stop)) (sym at.offsets) can)))
      why (inl (inr (inr memory))) = inr (inl memory.0)
      why (inr besides) = inr (inr besides)
