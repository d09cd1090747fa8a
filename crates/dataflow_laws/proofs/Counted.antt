-- How often a task has kept itself.
use Rattle.std.proofs.Common.{◌≡◌, ℕ, suc, ◌+◌, ◌<◌, ◌≤◌, List, [], ◌∷◌, ◌++◌, true, false, length, set, refl, sym, ap, ◌∙◌, inl, inr, arith, length-append, if◌then◌else◌}
use Rattle.std.proofs.lemmas.Bool.{cases_Bool, false≢true}
use Rattle.plan_model.specs.PlanData.{PlanData}
use Rattle.input_state.specs.declared.inputs.Shut.{Shut}
use Rattle.input_state.specs.declared.inputs.Shut.TheVariants.{Held, Ended}
use Rattle.input_state.specs.Inputs.{all_shut, any_held}
use Rattle.dataflow_model.specs.Ending.{may_stop}
use Rattle.dataflow_model.specs.Role.{is_source}
use Rattle.dataflow_model.specs.declared.ending.Ending.{Ending}
use Rattle.dataflow_model.specs.declared.ending.Ending.TheVariants.{AtEnd, AtCut, Asked}
use Rattle.dataflow_model.specs.AbstractTask.{AbstractTask}
use Rattle.dataflow_model.specs.State.{State, Kept, kept_of}
use Rattle.dataflow_model.specs.Steps.{Event, LocalStep, MayStop, barriers, is_last, past_barrier}
use Rattle.dataflow_model.specs.Steps.LocalStep.{put, opens, reads, saves, stops, closes, chain_rows, chain_mark, window_rows, window_mark, sink_rows, sink_mark, holds, aligns, ends, ends_all, ends_aligned}
use Rattle.dataflow_model.specs.Runs.{Run}
use Rattle.dataflow_model.specs.Runs.Run.{none, more}
use Rattle.dataflow_model.specs.Opening.{IsOpening}
use Rattle.dataflow_model.proofs.Facts.{no_source, stops_last, last_is}
use Rattle.dataflow_laws.specs.Kept.{IsCounted, KeptIsCounted}
use Rattle.dataflow_laws.proofs.Aligning.{Ins, ins, held_left}
use Rattle.dataflow_laws.proofs.Complete.{idle_of}
use Rattle.dataflow_laws.proofs.Cuts.{Waits, waits_step, waits_fresh}
use Rattle.dataflow_laws.proofs.Ends.{HasEnds, IsIdle, has_ends, not_over, aligned_by, not_last}
use Rattle.dataflow_laws.proofs.Opened.{IsFresh, fresh}
use Rattle.dataflow_laws.proofs.Openings.{opened_as}

-- at most one barrier is that of a stop
pub stop_is_one : (k : AbstractTask) → barriers k ≤ suc k.saves
stop_is_one k = elim (cases_Bool (may_stop k.ending)) [ inl d ↦ rw d (omega arith) | inr d ↦ rw d (omega arith) ]

-- ---- a step

-- one that passes no barrier
counted_same : (k : AbstractTask) (s s' : State) → s'.kept ≡ s.kept → s'.next ≡ s.next → (s'.over ≡ false → s.over ≡ false) → IsCounted k s → IsCounted k s'
counted_same k s s' ke ne ov r =
    let long : length s'.kept ≡ length s.kept = ap (λ (x : List Kept). length x) ke in
    record {
      few = let f = r.few in omega (arith, f, long);
      passed = let f = r.passed in omega (arith, f, ne);
      all = λ m l k. let a = r.all m (let z : m < s.next = omega (arith, l, ne) in z) k in omega (arith, a, long);
      going = λ o. let g = r.going (ov o) in long ∙ g ∙ sym ne;
    }

-- one that keeps the task and goes on
counted_kept : (k : AbstractTask) (s s' : State) → length s.kept ≡ s.next → s.next < k.saves → s'.kept ≡ s.kept ++ kept_of s ∷ [] → s'.next ≡ suc s.next → IsCounted k s → IsCounted k s'
counted_kept k s s' is less ke ne r =
    let long : length s'.kept ≡ suc s.next = ap (λ (x : List Kept). length x) ke ∙ length-append s.kept (kept_of s ∷ []) ∙ (let e : length s.kept + 1 ≡ suc s.next = omega (arith, is) in e) in
    record {
      few = omega (arith, long, less);
      passed = let z : k.saves ≤ barriers k = saves_first k in omega (arith, less, ne, z);
      all = λ m l _. omega (arith, l, ne, long);
      going = λ _. long ∙ sym ne;
    }
  where
    saves_first : (k : AbstractTask) → k.saves ≤ barriers k
    saves_first k = elim (cases_Bool (may_stop k.ending)) [ inl d ↦ rw d (omega arith) | inr d ↦ rw d (omega arith) ]

-- one by which it is over, at the barrier of the stop
counted_last : (k : AbstractTask) (s s' : State) → length s.kept ≡ s.next → s.next ≡ k.saves → s.next < barriers k → s'.kept ≡ s.kept → s'.next ≡ suc s.next → s'.over ≡ true → IsCounted k s'
counted_last k s s' is last left ke ne ov =
    let long : length s'.kept ≡ s.next = ap (λ (x : List Kept). length x) ke ∙ is in
    record {
      few = omega (arith, long, last);
      passed = omega (arith, left, ne);
      all = λ m _ l. omega (arith, l, long, last);
      going = λ o. absurd (false≢true (sym o ∙ ov));
    }

counted_past : (k : AbstractTask) (s : State) (shut : List Shut) → length s.kept ≡ s.next → s.next < barriers k → IsCounted k s → IsCounted k (past_barrier k s shut)
counted_past k s shut is left r = elim (cases_Bool (is_last k s.next)) [
  | inl e ↦ counted_last k s (past_barrier k s shut) is (last_is k s.next e) left (ap (λ b. if b then s.kept else (s.kept ++ kept_of s ∷ [])) e) refl e
  | inr e ↦ (
      let up = stop_is_one k in
      let other = not_last k s.next left e in
      let less : s.next < k.saves = below s.next k.saves (omega (arith, left, up)) other in
      counted_kept k s (past_barrier k s shut) is less (ap (λ b. if b then s.kept else (s.kept ++ kept_of s ∷ [])) e) refl r)
]
  where
    below : (a c : ℕ) → a ≤ c → (a ≡ c → ⊥) → a < c
    below a c l ne = omega (arith, l, ne)

may_stop_so : (ending : Ending) (k : AbstractTask) (s : State) → MayStop ending k s → may_stop ending ≡ true
may_stop_so AtEnd k s may = absurd may
may_stop_so AtCut k s may = refl
may_stop_so Asked k s may = refl

counted_step : (p : PlanData) (k : AbstractTask) (es : List Event) (s : State) (e : Event) (s' : State) → LocalStep p k s e s' → HasEnds k es s → Waits k es s → (is_source k.role ≡ false → Ins k es s) → IsCounted k s → IsCounted k s'
counted_step p k es s e s' (put is) he w ins r = counted_same k s s' refl refl (λ o. o) r
counted_step p k es s e s' (opens can) he w ins r = counted_same k s s' refl refl (λ o. o) r
counted_step p k es s e s' (reads own) he w ins r = counted_same k s s' refl refl (λ o. o) r
counted_step p k es s e s' (saves can may) he w ins r = counted_kept k s s' (w.kept can.going) may.0 refl refl r
counted_step p k es s e s' (stops can may) he w ins r =
    let last = stops_last k.ending k s may in
    let left : s.next < barriers k = let m = may_stop_so k.ending k s may in rw m (omega (arith, last)) in
    counted_last k s s' (w.kept can.going) last left refl refl refl
counted_step p k es s e s' (closes can may) he w ins r = counted_same k s s' refl refl (λ o. absurd (false≢true (sym o))) r
counted_step p k es s e s' (chain_rows role takes) he w ins r = counted_same k s s' refl refl (λ o. o) r
counted_step p k es s e s' (chain_mark role takes) he w ins r = counted_same k s s' refl refl (λ o. o) r
counted_step p k es s e s' (window_rows role takes added) he w ins r = counted_same k s s' refl refl (λ o. o) r
counted_step p k es s e s' (window_mark rows role takes fires) he w ins r = counted_same k s s' refl refl (λ o. o) r
counted_step p k es s e s' (sink_rows role takes) he w ins r = counted_same k s s' refl refl (λ o. o) r
counted_step p k es s e s' (sink_mark role takes) he w ins r = counted_same k s s' refl refl (λ o. o) r
counted_step p k es s e s' (holds takes is) he w ins r = counted_same k s s' refl refl (λ o. o) r
counted_step p k es s e s' (aligns {i = i} takes is) he w ins r =
    counted_past k s (set s.inputs.shut i Held) (w.kept (not_over k es s i takes.can.taker takes.can.free he)) takes.admitted.1 r
counted_step p k es s e s' (ends takes is) he w ins r = counted_same k s s' refl refl (λ o. o) r
counted_step p k es s e s' (ends_all takes is) he w ins r = counted_same k s s' refl refl (λ o. absurd (false≢true (sym o))) r
counted_step p k es s e s' (ends_aligned {i = i} takes is) he w ins r =
    let any = (aligned_by (all_shut (set s.inputs.shut i Ended)) (any_held (set s.inputs.shut i Ended)) is).1 in
    counted_past k s (set s.inputs.shut i Ended) (w.kept (not_over k es s i takes.can.taker takes.can.free he)) (held_left k es s i takes.can (ins takes.can.taker) any) r

-- ---- a task

record Counts (k : AbstractTask) (es : List Event) (s : State) : Type 0 where
  waits : Waits k es s
  counted : IsCounted k s

counts : (p : PlanData) (k : AbstractTask) (from : State) → IsIdle k from → from.next ≡ 0 → from.kept ≡ [] → IsFresh k from → (is_source k.role ≡ false → 0 < k.inputs) → {es : List Event} {s : State} → Run p k from es s → Counts k es s
counts p k from idle fn fk f some none = record {
  waits = waits_fresh k from idle fn fk;
  counted =
      let long : length from.kept ≡ 0 = ap (λ (x : List Kept). length x) fk in
      record { few = omega (arith, long); passed = omega (arith, fn); all = λ m l _. absurd (omega (arith, l, fn)); going = λ _. long ∙ sym fn };
}
counts p k from idle fn fk f some (more {es = es} {s = s} {e = e} {s' = s'} run st) =
    let r = counts p k from idle fn fk f some run in
    let he = has_ends p k from idle run in
    record { waits = waits_step p k es s e s' st he r.waits; counted = counted_step p k es s e s' st he r.waits (λ ns. ins p k from ns (some ns) f run) r.counted }

pub kept_is_counted : KeptIsCounted
kept_is_counted p l start ok b h t m =
    let k = l.task t in
    let o = b.opens t m in
    let f = fresh p k.role k (start t) o in
    let a = kept_first p k (start t) o in
    (counts p k (start t) (idle_of p k.role k (start t) o) a.0 a.1 f (λ ns. ok.some_input t (no_source k ns) m) (h.run t)).counted
  where
    kept_first : (p : PlanData) (k : AbstractTask) (s : State) → IsOpening p k.role k s → (s.next ≡ 0) × (s.kept ≡ [])
    kept_first p k s o = let a = opened_as p k.role k s o in (ap (λ (x : State). x.next) a.is, ap (λ (x : State). x.kept) a.is)
