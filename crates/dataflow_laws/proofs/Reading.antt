-- How far a source has read.
use Rattle.std.proofs.Common.{◌≡◌, true, refl, ℕ, zero, suc, ◌+◌, ◌-◌, ◌<◌, ◌≤◌, List, false, length, get_or, set, sym, ap, ◌∙◌, inl, inr, arith, length-set}
use Rattle.std.proofs.lemmas.Bool.{cases_eq, false≢true}
use Rattle.std.proofs.lemmas.List.{get_or-set_same, get_or-set_other}
use Rattle.plan_model.specs.PlanData.{PlanData}
use Rattle.dataflow_model.specs.declared.message.Message.{Message}
use Rattle.dataflow_model.specs.declared.role.Role.TheVariants.{Source}
use Rattle.dataflow_model.specs.AbstractTask.{AbstractTask}
use Rattle.dataflow_model.specs.State.{State}
use Rattle.dataflow_model.specs.Steps.{Event, Takes, LocalStep}
use Rattle.dataflow_model.specs.Steps.LocalStep.{put, opens, reads, saves, stops, closes, chain_rows, chain_mark, window_rows, window_mark, sink_rows, sink_mark, holds, aligns, ends, ends_all, ends_aligned}
use Rattle.dataflow_model.specs.Runs.{Run}
use Rattle.dataflow_model.specs.Runs.Run.{none, more}
use Rattle.dataflow_model.proofs.Facts.{no_source}

-- the limits of a source rise, up to its end or before
pub record HasLimits (k : AbstractTask) : Type 0 where
  pub source : k.role ≡ Source
  pub rises : (m q : ℕ) → q < k.inputs → m < k.saves → k.limit m q ≤ k.limit (suc m) q
  pub within : (q : ℕ) → q < k.inputs → k.limit k.saves q ≤ k.size q

pub record Reading (k : AbstractTask) (s : State) : Type 0 where
  pub long : length s.offsets ≡ k.inputs
  pub within : s.over ≡ false → (q : ℕ) → q < k.inputs → get_or s.offsets q 0 ≤ k.limit s.next q
  pub going : s.over ≡ false → s.next ≤ k.saves
  pub size : (q : ℕ) → q < k.inputs → get_or s.offsets q 0 ≤ k.size q
  pub opened : s.over ≡ true → s.opened ≡ true

-- a limit is at most the last one
up_by : (k : AbstractTask) → HasLimits k → (q : ℕ) → q < k.inputs → (d m : ℕ) → m + d ≡ k.saves → k.limit m q ≤ k.limit k.saves q
up_by k h q l zero m e = let z : m ≡ k.saves = omega (arith, e) in let y = ap (λ x. k.limit x q) z in omega (arith, y)
up_by k h q l (suc d) m e = let a = up_by k h q l d (suc m) (omega (arith, e)) in let b = h.rises m q l (omega (arith, e)) in omega (arith, a, b)

pub limit_up : (k : AbstractTask) → HasLimits k → (q m : ℕ) → q < k.inputs → m ≤ k.saves → k.limit m q ≤ k.limit k.saves q
limit_up k h q m l le = up_by k h q l (k.saves - m) m (omega (arith, le))

not_taken : (p : PlanData) (k : AbstractTask) (s : State) (i : ℕ) (m : Message) → HasLimits k → Takes p k s i m → ⊥
not_taken p k s i m h t = no_source k t.can.taker h.source

reading_read : (k : AbstractTask) (s : State) (q : ℕ) → HasLimits k → s.over ≡ false → q < k.inputs → get_or s.offsets q 0 < k.limit s.next q → Reading k s
    → (x : ℕ) → x < k.inputs → (get_or (set s.offsets q (suc (get_or s.offsets q 0))) x 0 ≤ k.limit s.next x) × (get_or (set s.offsets q (suc (get_or s.offsets q 0))) x 0 ≤ k.size x)
reading_read k s q h ov l lim r x xl = elim (cases_eq x q) [
  | inr ne ↦
      let e = get_or-set_other s.offsets q x (suc (get_or s.offsets q 0)) 0 ne in
      let a = r.within ov x xl in
      let b = r.size x xl in
      (omega (arith, e, a), omega (arith, e, b))
  | inl u ↦
      let e : get_or (set s.offsets q (suc (get_or s.offsets q 0))) x 0 ≡ suc (get_or s.offsets q 0) = ap (λ y. get_or (set s.offsets q (suc (get_or s.offsets q 0))) y 0) u ∙ get_or-set_same s.offsets q (suc (get_or s.offsets q 0)) 0 (let z = r.long in omega (arith, z, l)) in
      let a = limit_up k h q s.next l (r.going ov) in
      let b = h.within q l in
      let c = ap (k.limit s.next) u in
      let d = ap k.size u in
      (omega (arith, e, lim, c), omega (arith, e, lim, a, b, d))
]

reading_step : (p : PlanData) (k : AbstractTask) (s : State) (e : Event) (s' : State) → HasLimits k → LocalStep p k s e s' → Reading k s → Reading k s'
reading_step p k s e s' h (put is) r = record { long = r.long; within = r.within; going = r.going; size = r.size; opened = r.opened }
reading_step p k s e s' h (opens can) r = record { long = r.long; within = r.within; going = r.going; size = r.size; opened = λ o. refl }
reading_step p k s e s' h (reads {q = q} own) r =
    let c = own.can in
    let x = reading_read k s q h c.can.going c.partition c.rest r in
    record { long = length-set s.offsets q (suc (get_or s.offsets q 0)) ∙ r.long; within = λ o y l. (x y l).0; going = r.going; size = λ y l. (x y l).1; opened = r.opened }
reading_step p k s e s' h (saves can may) r =
    record { long = r.long; within = λ o q l. (let a = may.1 q l in let b = h.rises s.next q l may.0 in omega (arith, a, b)); going = λ o. (let a = may.0 in omega (arith, a)); size = r.size; opened = r.opened }
reading_step p k s e s' h (stops can may) r = record { long = r.long; within = λ o. absurd (false≢true (sym o)); going = λ o. absurd (false≢true (sym o)); size = r.size; opened = λ o. can.opened }
reading_step p k s e s' h (closes can may) r = record { long = r.long; within = λ o. absurd (false≢true (sym o)); going = λ o. absurd (false≢true (sym o)); size = r.size; opened = λ o. can.opened }
reading_step p k s e s' h (chain_rows {i = i} role takes) r = absurd (not_taken p k s i _ h takes)
reading_step p k s e s' h (chain_mark {i = i} role takes) r = absurd (not_taken p k s i _ h takes)
reading_step p k s e s' h (window_rows {i = i} role takes added) r = absurd (not_taken p k s i _ h takes)
reading_step p k s e s' h (window_mark {i = i} rows role takes fires) r = absurd (not_taken p k s i _ h takes)
reading_step p k s e s' h (sink_rows {i = i} role takes) r = absurd (not_taken p k s i _ h takes)
reading_step p k s e s' h (sink_mark {i = i} role takes) r = absurd (not_taken p k s i _ h takes)
reading_step p k s e s' h (holds {i = i} takes is) r = absurd (not_taken p k s i _ h takes)
reading_step p k s e s' h (aligns {i = i} takes is) r = absurd (not_taken p k s i _ h takes)
reading_step p k s e s' h (ends {i = i} takes is) r = absurd (not_taken p k s i _ h takes)
reading_step p k s e s' h (ends_all {i = i} takes is) r = absurd (not_taken p k s i _ h takes)
reading_step p k s e s' h (ends_aligned {i = i} takes is) r = absurd (not_taken p k s i _ h takes)

pub reading : (p : PlanData) (k : AbstractTask) (start : State) → HasLimits k → Reading k start → {es : List Event} {s : State} → Run p k start es s → Reading k s
reading p k start h f none = f
reading p k start h f (more {s = s} {e = e} {s' = s'} run st) = reading_step p k s e s' h st (reading p k start h f run)

-- where limits begin, a source begins so
pub reading_fresh : (k : AbstractTask) (s : State) → HasLimits k → length s.offsets ≡ k.inputs → s.next ≡ 0 → s.over ≡ false → ((q : ℕ) → q < k.inputs → get_or s.offsets q 0 ≤ k.limit 0 q) → Reading k s
reading_fresh k s h lo n ov w = record {
  long = lo;
  within = λ o q l. (let a = w q l in let b = ap (λ x. k.limit x q) n in omega (arith, a, b));
  going = λ o. omega (arith, n);
  size = λ q l. (let a = w q l in let b = limit_up k h q 0 l (omega arith) in let c = h.within q l in omega (arith, a, b, c));
  opened = λ o. absurd (false≢true (sym ov ∙ o));
}
