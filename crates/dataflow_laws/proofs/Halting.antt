-- Once all tasks of a leg are done, the sink tells whether it has stopped.
use Rattle.std.proofs.Common.{◌≡◌, ℕ, zero, suc, ◌+◌, ◌<◌, ◌≤◌, List, [], ◌∷◌, ◌++◌, Bool, true, false, cond, eqb, length, get_or, set, refl, sym, ap, subst, ◌∙◌, inl, inr, arith, get_or-set_same, get_or-set_other, if◌then◌else◌}
use Rattle.std.specs.List.{AllByRecursion}
use Rattle.std.proofs.lemmas.Bool.{cases_eq, cases_lt, cases_Bool, eq-eqb, false≢true}
use Rattle.plan_model.specs.PlanData.{PlanData}
use Rattle.input_state.specs.declared.inputs.Shut.{Shut}
use Rattle.input_state.specs.declared.inputs.Shut.TheVariants.{Free, Held, Ended}
use Rattle.input_state.specs.declared.inputs.Aligned.TheVariants as aligned
use Rattle.input_state.specs.Inputs.{inputs_from, shut_at, all_shut, any_held, alignment, released}
use Rattle.dataflow_model.specs.declared.message.Message.{Message}
use Rattle.dataflow_model.specs.declared.message.Message.TheVariants.{Rows, Fired, Watermark, Barrier, End}
use Rattle.dataflow_model.specs.declared.role.Role.TheVariants.{Source}
use Rattle.dataflow_model.specs.declared.ending.Ending.{Ending}
use Rattle.dataflow_model.specs.declared.ending.Ending.TheVariants.{AtEnd, AtCut, Asked}
use Rattle.dataflow_model.specs.Ending.{may_stop}
use Rattle.dataflow_model.specs.Role.{is_source}
use Rattle.dataflow_model.specs.AbstractTask.{AbstractTask}
use Rattle.dataflow_model.specs.AbstractLayout.{AbstractLayout, IsLayout}
use Rattle.dataflow_model.specs.State.{State}
use Rattle.dataflow_model.specs.Steps.{Event, Open, Read, Save, Stop, Close, Take, Put, LocalStep, barriers, is_last, past_barrier, MayStop, MayClose}
use Rattle.dataflow_model.specs.Steps.LocalStep.{put, opens, reads, saves, stops, closes, chain_rows, chain_mark, window_rows, window_mark, sink_rows, sink_mark, holds, aligns, ends, ends_all, ends_aligned}
use Rattle.dataflow_model.specs.Runs.{Run, taken, sent, only, onto, given}
use Rattle.dataflow_model.specs.Runs.Run.{none, more}
use Rattle.dataflow_model.specs.Start.{IsLegStart}
use Rattle.dataflow_model.specs.History.{History, IsComplete}
use Rattle.dataflow_model.proofs.Facts.{get_free, no_source, not_a_source, source_yes, released_at, all_shut_at, none_held_at, all_ended_by, stops_last, last_is}
use Rattle.dataflow_laws.specs.Kept.{has_barrier}
use Rattle.dataflow_laws.specs.Stopped.{HaveClosed, SinkTellsStops, StoppedIsComplete}
use Rattle.dataflow_laws.proofs.Aligning.{last_of}
use Rattle.dataflow_laws.proofs.Ends.{is_final, ended, Closed, HasEnds, IsIdle, has_ends, not_over, shut_by_end, held_somewhere, shut_cases, let_go_ended, aligned_by, not_last, closes_at}
use Rattle.dataflow_laws.proofs.Openings.{opened_as}
use Rattle.dataflow_laws.proofs.Admission.{outs_of}
use Rattle.dataflow_laws.proofs.Complete.{ended_append, idle_of, ring_bound}
use Rattle.dataflow_laws.proofs.Completing.{Meets, met, nothing_behind, aligned_is_complete}
use Rattle.dataflow_laws.proofs.Counted.{stop_is_one}

-- ---- logs

abbrev is_end : Message → Bool
is_end (Rows t) = false
is_end (Fired rows) = false
is_end (Watermark t) = false
is_end (Barrier n) = false
is_end End = true

-- an end is among the messages
abbrev has_end : List Message → Bool
has_end [] = false
has_end (m ∷ log) = cond (is_end m) true (has_end log)

end_append : (xs ys : List Message) → has_end ys ≡ true → has_end (xs ++ ys) ≡ true
end_append [] ys h = h
end_append (x ∷ xs) ys h = elim (cases_Bool (is_end x)) [ inl d ↦ rw d refl | inr d ↦ rw d (end_append xs ys h) ]

end_ended : (n : ℕ) (log : List Message) → has_end log ≡ true → ended n log ≡ true
end_ended n [] h = absurd (false≢true h)
end_ended n (Rows t ∷ log) h = end_ended n log h
end_ended n (Fired rows ∷ log) h = end_ended n log h
end_ended n (Watermark t ∷ log) h = end_ended n log h
end_ended n (Barrier m ∷ log) h = ended_append n (Barrier m ∷ []) log (end_ended n log h)
end_ended n (End ∷ log) h = refl

pub barrier_ended : (n : ℕ) (log : List Message) → has_barrier n log ≡ true → ended n log ≡ true
barrier_ended n [] h = absurd (false≢true h)
barrier_ended n (Rows t ∷ log) h = barrier_ended n log h
barrier_ended n (Fired rows ∷ log) h = barrier_ended n log h
barrier_ended n (Watermark t ∷ log) h = barrier_ended n log h
barrier_ended n (Barrier m ∷ log) h = elim (cases_Bool (eqb m n)) [ inl d ↦ rw d refl | inr d ↦ rw d (barrier_ended n log (rw d at h)) ]
barrier_ended n (End ∷ log) h = refl

-- what a last message ends has no other
one_last : (n : ℕ) (last : Message) (before : List Message) → is_final n last ≡ true → ended n before ≡ false → has_barrier n (last ∷ before) ≡ true → has_end (last ∷ before) ≡ true → ⊥
one_last n (Rows t) before f other b e = false≢true f
one_last n (Fired rows) before f other b e = false≢true f
one_last n (Watermark t) before f other b e = false≢true f
one_last n (Barrier m) before f other b e = false≢true (sym other ∙ end_ended n before e)
one_last n End before f other b e = false≢true (sym other ∙ barrier_ended n before b)

closed_once : (n : ℕ) (log : List Message) → Closed n log → has_barrier n log ≡ true → has_end log ≡ true → ⊥
closed_once n log c b e = one_last n c.last c.before c.is_end c.first (sym (ap (has_barrier n) c.is) ∙ b) (sym (ap has_end c.is) ∙ e)

end_more : (x : ℕ) (e : Event) (es : List Event) → has_end (taken x es) ≡ true → has_end (taken x (e ∷ es)) ≡ true
end_more x Open es h = h
end_more x (Read q) es h = h
end_more x Save es h = h
end_more x Stop es h = h
end_more x Close es h = h
end_more x (Take i m) es h = elim (cases_Bool (eqb x i)) [ inl d ↦ rw d (end_append (m ∷ []) (taken x es) h) | inr d ↦ rw d h ]
end_more x (Put j m) es h = h

-- ---- a task

pub record IsClosed (k : AbstractTask) (s : State) : Type 0 where
  pub ending : k.ending ≡ AtCut → ⊥
  pub read : (q : ℕ) → q < k.inputs → get_or s.offsets q 0 ≡ k.limit k.saves q

-- a task that goes on has not passed the barrier of the stop; of one that is over and has not, all inputs have ended,
-- or it has closed
pub record Halts (k : AbstractTask) (es : List Event) (s : State) : Type 0 where
  pub few : s.next ≤ barriers k
  pub going : s.over ≡ false → s.next ≤ k.saves
  pub shut : is_source k.role ≡ false → (i : ℕ) → i < k.inputs → shut_at s.inputs.shut i ≡ Ended → has_end (taken i es) ≡ true
  pub unheld : is_source k.role ≡ false → s.over ≡ true → s.next ≤ k.saves → any_held s.inputs.shut ≡ false
  pub closed : k.role ≡ Source → s.over ≡ true → s.next ≤ k.saves → IsClosed k s

halts_same : (k : AbstractTask) (es : List Event) (s : State) (e : Event) (s' : State) → s'.over ≡ s.over → s'.inputs.shut ≡ s.inputs.shut → s'.next ≡ s.next → (s.over ≡ true → s'.offsets ≡ s.offsets) → Halts k es s → Halts k (e ∷ es) s'
halts_same k es s e s' oe se ne fe r = record {
  few = subst (λ n. n ≤ barriers k) (sym ne) r.few;
  going = λ o. subst (λ n. n ≤ k.saves) (sym ne) (r.going (sym oe ∙ o));
  shut = λ ns i l h. end_more i e es (r.shut ns i l (ap (λ x. shut_at x i) (sym se) ∙ h));
  unheld = λ ns o n. ap any_held se ∙ r.unheld ns (sym oe ∙ o) (subst (λ x. x ≤ k.saves) ne n);
  closed = λ a o n.
      let c = r.closed a (sym oe ∙ o) (subst (λ x. x ≤ k.saves) ne n) in
      record { ending = c.ending; read = λ q l. ap (λ x. get_or x q 0) (fe (sym oe ∙ o)) ∙ c.read q l };
}

-- an input that is shut by a message has ended by an end alone
shut_by : (k : AbstractTask) (es : List Event) (s : State) (i : ℕ) (m : Message) (v : Shut) → is_source k.role ≡ false → length s.inputs.shut ≡ k.inputs → i < k.inputs → (v ≡ Ended → is_end m ≡ true) → Halts k es s
    → (x : ℕ) → x < k.inputs → shut_at (set s.inputs.shut i v) x ≡ Ended → has_end (taken x (Take i m ∷ es)) ≡ true
shut_by k es s i m v ns long il is r x xl h = elim (cases_eq x i) [
  | inl e ↦
      (let here : v ≡ Ended = sym (get_or-set_same s.inputs.shut i v Ended (omega (arith, long, il))) ∙ ap (shut_at (set s.inputs.shut i v)) (sym e) ∙ h in
      let d = eq-eqb x i e in
      let f = is here in
      rw d (rw f refl))
  | inr ne ↦ end_more x (Take i m) es (r.shut ns x xl (sym (get_or-set_other s.inputs.shut i x v Ended ne) ∙ h))
]

-- other inputs wait
halts_wait : (k : AbstractTask) (es : List Event) (s : State) (i : ℕ) (m : Message) (v : Shut) → is_source k.role ≡ false → s.over ≡ false → length s.inputs.shut ≡ k.inputs → i < k.inputs → (v ≡ Ended → is_end m ≡ true) → Halts k es s
    → Halts k (Take i m ∷ es) (record s { inputs = inputs_from s.inputs.marks (set s.inputs.shut i v) })
halts_wait k es s i m v ns ov long il is r = record {
  few = r.few;
  going = r.going;
  shut = λ n. shut_by k es s i m v ns long il is r;
  unheld = λ n o. absurd (false≢true (sym ov ∙ o));
  closed = λ a. absurd (no_source k ns a);
}

-- all inputs have come to the barrier
halts_past : (k : AbstractTask) (es : List Event) (s : State) (i : ℕ) (m : Message) (v : Shut) → is_source k.role ≡ false → length s.inputs.shut ≡ k.inputs → i < k.inputs → s.next < barriers k → (v ≡ Ended → is_end m ≡ true) → Halts k es s
    → Halts k (Take i m ∷ es) (past_barrier k s (set s.inputs.shut i v))
halts_past k es s i m v ns long il left is r =
    let up = stop_is_one k in
    record {
      few = omega (arith, left);
      going = λ o. let other = not_last k s.next left o in less s.next k.saves (omega (arith, left, up)) other;
      shut = λ n x xl h. shut_by k es s i m v ns long il is r x xl (was (is_last k s.next) x h);
      unheld = λ n o few. absurd (let here = last_is k s.next o in omega (arith, few, here));
      closed = λ a. absurd (no_source k ns a);
    }
  where
    less : (a b : ℕ) → a ≤ b → (a ≡ b → ⊥) → suc a ≤ b
    less a b le ne = elim (cases_lt a b) [ inl l ↦ omega (arith, l) | inr g ↦ absurd (ne (omega (arith, le, g))) ]

    was : (b : Bool) (x : ℕ) → shut_at (if b then set s.inputs.shut i v else released (set s.inputs.shut i v)) x ≡ Ended → shut_at (set s.inputs.shut i v) x ≡ Ended
    was true x h = h
    was false x h = let_go_ended (shut_at (set s.inputs.shut i v) x) (sym (released_at (set s.inputs.shut i v) x) ∙ h)

-- all have ended
halts_over : (k : AbstractTask) (es : List Event) (s : State) (i : ℕ) → is_source k.role ≡ false → length s.inputs.shut ≡ k.inputs → i < k.inputs → alignment (set s.inputs.shut i Ended) ≡ aligned.AllEnded → (s' : State) → s'.inputs.shut ≡ set s.inputs.shut i Ended → s'.over ≡ true → s'.next ≡ s.next
    → Halts k es s → Halts k (Take i End ∷ es) s'
halts_over k es s i ns long il all s' se oe ne r = record {
  few = subst (λ n. n ≤ barriers k) (sym ne) r.few;
  going = λ o. absurd (false≢true (sym o ∙ oe));
  shut = λ n x xl h. shut_by k es s i End Ended ns long il (λ _. refl) r x xl (ap (λ y. shut_at y x) (sym se) ∙ h);
  unheld = λ n o few. ap any_held se ∙ (all_ended_by (all_shut (set s.inputs.shut i Ended)) (any_held (set s.inputs.shut i Ended)) all).1;
  closed = λ a. absurd (no_source k ns a);
}

may_stop_of : (d : Ending) (k : AbstractTask) (s : State) → MayStop d k s → may_stop d ≡ true
may_stop_of AtEnd k s may = absurd may
may_stop_of AtCut k s may = refl
may_stop_of Asked k s may = refl

not_at_cut : (d : Ending) (k : AbstractTask) (s : State) → MayClose d k s → d ≡ AtCut → ⊥
not_at_cut AtEnd k s may e = cc
not_at_cut AtCut k s may e = may
not_at_cut Asked k s may e = cc

halts_stop : (k : AbstractTask) (es : List Event) (s : State) (s' : State) → k.role ≡ Source → MayStop k.ending k s → s'.over ≡ true → s'.next ≡ suc s.next → Halts k (Stop ∷ es) s'
halts_stop k es s s' a may oe ne =
    let last = stops_last k.ending k s may in
    let one : barriers k ≡ k.saves + 1 = ap (λ b. k.saves + (if b then 1 else 0)) (may_stop_of k.ending k s may) in
    record {
      few = omega (arith, last, one, ne);
      going = λ o. absurd (false≢true (sym o ∙ oe));
      shut = λ n. absurd (no_source k n a);
      unheld = λ n. absurd (no_source k n a);
      closed = λ _ _ few. absurd (omega (arith, few, ne, last));
    }

halts_close : (k : AbstractTask) (es : List Event) (s : State) (s' : State) → k.role ≡ Source → MayClose k.ending k s → s'.over ≡ true → s'.next ≡ s.next → s'.offsets ≡ s.offsets → Halts k es s → Halts k (Close ∷ es) s'
halts_close k es s s' a may oe ne fe r = record {
  few = subst (λ n. n ≤ barriers k) (sym ne) r.few;
  going = λ o. absurd (false≢true (sym o ∙ oe));
  shut = λ n. absurd (no_source k n a);
  unheld = λ n. absurd (no_source k n a);
  closed = λ _ _ _. record { ending = not_at_cut k.ending k s may; read = λ q l. ap (λ x. get_or x q 0) fe ∙ closes_at k.ending k s may q l };
}

halts_save : (k : AbstractTask) (es : List Event) (s : State) (s' : State) → k.role ≡ Source → s.over ≡ false → s.next < k.saves → s'.over ≡ s.over → s'.next ≡ suc s.next → Halts k (Save ∷ es) s'
halts_save k es s s' a ov left oe ne =
    let least : k.saves ≤ barriers k = omega arith in
    record {
      few = omega (arith, left, ne, least);
      going = λ _. omega (arith, left, ne);
      shut = λ n. absurd (no_source k n a);
      unheld = λ n. absurd (no_source k n a);
      closed = λ _ o. absurd (false≢true (sym ov ∙ sym oe ∙ o));
    }

halts_step : (p : PlanData) (k : AbstractTask) (es : List Event) (s : State) (e : Event) (s' : State) → LocalStep p k s e s' → HasEnds k es s → Halts k es s → Halts k (e ∷ es) s'
halts_step p k es s e s' (put {j = i} {m = m} is) he r = halts_same k es s (Put i m) s' refl refl refl (λ _. refl) r
halts_step p k es s e s' (opens can) he r = halts_same k es s Open s' refl refl refl (λ _. refl) r
halts_step p k es s e s' (reads {n = n} own) he r = halts_same k es s (Read n) s' refl refl refl (λ o. absurd (false≢true (sym own.can.can.going ∙ o))) r
halts_step p k es s e s' (saves can may) he r = halts_save k es s s' can.source can.going may.0 refl refl
halts_step p k es s e s' (stops can may) he r = halts_stop k es s s' can.source may refl refl
halts_step p k es s e s' (closes can may) he r = halts_close k es s s' can.source may refl refl refl r
halts_step p k es s e s' (chain_rows {i = i} {t = t} a takes) he r = halts_same k es s (Take i (Rows t)) s' refl refl refl (λ _. refl) r
halts_step p k es s e s' (chain_mark {i = i} {t = t} a takes) he r = halts_same k es s (Take i (Watermark t)) s' refl refl refl (λ _. refl) r
halts_step p k es s e s' (window_rows {i = i} {t = t} a takes added) he r = halts_same k es s (Take i (Rows t)) s' refl refl refl (λ _. refl) r
halts_step p k es s e s' (window_mark {i = i} {t = t} rows a takes fires) he r = halts_same k es s (Take i (Watermark t)) s' refl refl refl (λ _. refl) r
halts_step p k es s e s' (sink_rows {i = i} {rows = rows} a takes) he r = halts_same k es s (Take i (Fired rows)) s' refl refl refl (λ _. refl) r
halts_step p k es s e s' (sink_mark {i = i} {t = t} a takes) he r = halts_same k es s (Take i (Watermark t)) s' refl refl refl (λ _. refl) r
halts_step p k es s e s' (holds {i = i} {n = n} takes is) he r =
    halts_wait k es s i (Barrier n) Held takes.can.taker (not_over k es s i takes.can.taker takes.can.free he) (he.shut_length takes.can.taker) takes.can.input (λ h. cc) r
halts_step p k es s e s' (aligns {i = i} {n = n} takes is) he r = halts_past k es s i (Barrier n) Held takes.can.taker (he.shut_length takes.can.taker) takes.can.input takes.admitted.1 (λ h. cc) r
halts_step p k es s e s' (ends {i = i} takes is) he r =
    halts_wait k es s i End Ended takes.can.taker (not_over k es s i takes.can.taker takes.can.free he) (he.shut_length takes.can.taker) takes.can.input (λ _. refl) r
halts_step p k es s e s' (ends_all {i = i} takes is) he r = halts_over k es s i takes.can.taker (he.shut_length takes.can.taker) takes.can.input is s' refl refl refl r
halts_step p k es s e s' (ends_aligned {i = i} takes is) he r =
    let by = shut_by_end k es s i takes.can.taker (not_over k es s i takes.can.taker takes.can.free he) takes.can.input he in
    let held = held_somewhere (set s.inputs.shut i Ended) (aligned_by (all_shut (set s.inputs.shut i Ended)) (any_held (set s.inputs.shut i Ended)) is).1 in
    let long = by.long in
    let one = held.1 in
    halts_past k es s i End Ended takes.can.taker (he.shut_length takes.can.taker) takes.can.input (by.held held.0 (omega (arith, one, long)) held.2).0 (λ _. refl) r

halts : (p : PlanData) (k : AbstractTask) (start : State) → IsIdle k start → start.next ≡ 0 → {es : List Event} {s : State} → Run p k start es s → Halts k es s
halts p k start f fn none = record {
  few = omega (arith, fn);
  going = λ o. omega (arith, fn);
  shut = λ ns i l h. absurd (let e : Free ≡ Ended = sym (ap (λ x. shut_at x i) f.shut ∙ get_free k.inputs i l) ∙ h in cc);
  unheld = λ ns o. absurd (false≢true (sym f.over ∙ o));
  closed = λ a o. absurd (false≢true (sym f.over ∙ o));
}
halts p k start f fn (more {es = es} {s = s} {e = e} {s' = s'} run st) = halts_step p k es s e s' st (has_ends p k start f run) (halts p k start f fn run)

-- ---- a layout

module _ (p : PlanData) (l : AbstractLayout) (start : ℕ → State) (ok : IsLayout l) (leg : IsLegStart p l start) (h : History p l start) where
  idle : (t : ℕ) → t ≤ l.sink → IsIdle (l.task t) (start t)
  idle t m = idle_of p (l.task t).role (l.task t) (start t) (leg.opens t m)

  pub ends_at : (t : ℕ) → t ≤ l.sink → HasEnds (l.task t) (h.steps t) (h.end t)
  ends_at t m = has_ends p (l.task t) (start t) (idle t m) (h.run t)

  pub halts_at : (t : ℕ) → t ≤ l.sink → Halts (l.task t) (h.steps t) (h.end t)
  halts_at t m = halts p (l.task t) (start t) (idle t m) (ap (λ (s : State). s.next) (opened_as p (l.task t).role (l.task t) (start t) (leg.opens t m)).is) (h.run t)

  meets_at : (t : ℕ) → t ≤ l.sink → Meets (l.task t) (h.steps t) (h.end t)
  meets_at t m = met p (l.task t) (start t) (h.steps t) (h.end t) (leg.opens t m) (h.run t)

  -- the first task is a source
  first_source : (l.task 0).role ≡ Source
  first_source = elim (cases_Bool (is_source (l.task 0).role)) [
    | inl e ↦ source_yes (l.task 0).role e
    | inr e ↦ absurd (
        let other = no_source (l.task 0) e in
        let ring = (ok.input 0 0 other (ok.some_input 0 other (omega arith))).0 in
        let before = ok.forward (l.from 0 0) 0 ring in
        omega (arith, before))
  ]

  -- from each task but the sink a ring leads on
  next_task : (t : ℕ) → t < l.sink → (u : ℕ) × (l.ring t u ≡ true) × (t < u) × (u ≤ l.sink)
  next_task t m = elim (cases_lt t l.before) [
    | inl b ↦ (let o = ok.output t 0 (ok.some_output t b) in (l.to t 0, o.0, ok.forward t (l.to t 0) o.0, o.2))
    | inr b ↦ (l.sink, (ok.window_out t b m).1, m, omega arith)
  ]

  module _ (complete : IsComplete h) where
    -- a task that has not passed the barrier of the stop has got an end on each input, and so none from a sender that
    -- has passed it
    sender : (s t : ℕ) → l.ring s t ≡ true → (h.end t).next ≤ (l.task t).saves → (h.end s).next ≤ (l.task s).saves
    sender s t r few =
        let bd = ring_bound l ok s t r in
        let j = l.out_at s t in
        let i = l.in_at s t in
        let ns = not_a_source (l.task t).role (λ a. false≢true (sym (ok.no_ring_in s t a) ∙ r)) in
        let over = (complete t bd.1).0 in
        let all = (ends_at t bd.1).over_shut ns over in
        let held = (halts_at t bd.1).unheld ns over few in
        let by_end : shut_at (h.end t).inputs.shut i ≡ Ended = elim (shut_cases (shut_at (h.end t).inputs.shut i)) [
          | inl c ↦ elim c [ inl f ↦ absurd (all_shut_at (h.end t).inputs.shut i all f) | inr f ↦ absurd (none_held_at (h.end t).inputs.shut i held f) ]
          | inr d ↦ d
        ] in
        let took = (halts_at t bd.1).shut ns i (ok.ring_in s t r).0 by_end in
        let put_it : has_end (sent j (h.steps s)) ≡ true = ap has_end (h.rings s t r) ∙ end_append (h.holds s t) (taken i (h.steps t)) took in
        let gave : has_end (given j (h.steps s) (h.end s)) ≡ true = ap (λ q. has_end (onto (only j q) (sent j (h.steps s)))) (complete s bd.0).1 ∙ put_it in
        let o = (ok.ring_out s t r).0 in
        elim (cases_lt (l.task s).saves (h.end s).next) [
          | inr q ↦ q
          | inl q ↦ absurd (closed_once (last_of (l.task s)) (given j (h.steps s) (h.end s)) ((ends_at s bd.0).closed (complete s bd.0).0 j o) ((meets_at s bd.0).gave (l.task s).saves q j o) gave)
        ]

    -- where the sink has not passed it, no task has
    none_passed : (h.end l.sink).next ≤ (l.task l.sink).saves → (n t : ℕ) → t ≤ l.sink → l.sink ≤ t + n → (h.end t).next ≤ (l.task t).saves
    none_passed few zero t m far = (let e : t ≡ l.sink = omega (arith, m, far) in subst (λ u. (h.end u).next ≤ (l.task u).saves) (sym e) few)
    none_passed few (suc n) t m far = elim (cases_lt t l.sink) [
      | inr g ↦ (let e : t ≡ l.sink = omega (arith, m, g) in subst (λ u. (h.end u).next ≤ (l.task u).saves) (sym e) few)
      | inl k ↦ (let u = next_task t k in let on = u.2 in sender t u.0 u.1 (none_passed few n u.0 u.3 (omega (arith, far, on))))
    ]

    closed_at : (h.end l.sink).next ≤ (l.task l.sink).saves → (t : ℕ) → t ≤ l.sink → (l.task t).role ≡ Source → IsClosed (l.task t) (h.end t)
    closed_at few t m a = (halts_at t m).closed a (complete t m).0 (none_passed few l.sink t m (omega arith))

    pub have_closed : (h.end l.sink).next ≤ (l.task l.sink).saves → HaveClosed l h.end
    have_closed few = record {
      ending = λ e. (closed_at few 0 (omega arith) first_source).ending ((leg.leg.alike 0 (omega arith)).2 ∙ e);
      read = λ t q b a k. (let some = ok.some_windows in (closed_at few t (omega (arith, some, b)) a).read q k);
    }

    pub may_stop_there : (l.task l.sink).saves < (h.end l.sink).next → may_stop (l.task l.sink).ending ≡ true
    may_stop_there past = elim (cases_Bool (may_stop (l.task l.sink).ending)) [
      | inl e ↦ e
      | inr e ↦ absurd (
          let few = (halts_at l.sink (omega arith)).few in
          let as_many : barriers (l.task l.sink) ≡ (l.task l.sink).saves + 0 = ap (λ b. (l.task l.sink).saves + (if b then 1 else 0)) e in
          omega (arith, few, as_many, past))
    ]

pub sink_tells_stops : SinkTellsStops
sink_tells_stops p l start ok leg h complete = (may_stop_there p l start ok leg h complete, have_closed p l start ok leg h complete)

-- nothing is pending that is for some output, where there is none that it could be for
none_pending : (n : ℕ) (ps : List (ℕ × Message)) → AllByRecursion (λ x. x.0 < n) ps → ((j : ℕ) → j < n → only j ps ≡ []) → ps ≡ []
none_pending n [] within none_for = refl
none_pending n (x ∷ ps) within none_for = absurd (
    let e : cond (eqb x.0 x.0) (x.1 ∷ only x.0 ps) (only x.0 ps) ≡ [] = none_for x.0 within.0 in
    let d = eq-eqb x.0 x.0 refl in
    let some : x.1 ∷ only x.0 ps ≡ [] = (rw d at e) in
    cc)

pub stopped_is_complete : StoppedIsComplete
stopped_is_complete p l start ok leg input h aligned t m =
    let k = l.task t in
    let s = h.end t in
    let same = (leg.leg.alike t m).1 in
    let past = aligned t m in
    let over : s.over ≡ true = elim (cases_Bool s.over) [ inl o ↦ o | inr g ↦ absurd (let few = (halts_at p l start ok leg h t m).going g in omega (arith, few, same, past)) ] in
    let within = (outs_of p l start (record { tasks = h.end; rings = h.holds }) ok leg input (h, record { tasks = refl; rings = refl }) t m).within in
    let put_there = (aligned_is_complete p l start (l.task l.sink).saves ok leg h aligned).put t in (
      over,
      none_pending k.outputs s.pending within (λ j jl.
          let gone : has_barrier (last_of k) (sent j (h.steps t)) ≡ true = subst (λ n. has_barrier (k.first + n) (sent j (h.steps t)) ≡ true) (sym same) (put_there j m jl) in
          nothing_behind (last_of k) (only j s.pending) (sent j (h.steps t)) (barrier_ended (last_of k) (sent j (h.steps t)) gone) ((ends_at p l start ok leg h t m).closed over j jl)),
    )
