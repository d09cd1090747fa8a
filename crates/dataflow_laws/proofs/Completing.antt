-- A barrier on which every task has aligned was put on every ring.
use Rattle.std.proofs.Common.{◌≡◌, ℕ, ◌+◌, ◌<◌, List, [], ◌∷◌, ◌++◌, true, false, cond, eqb, set, refl, sym, ap, subst, ◌∙◌, inl, inr, arith}
use Rattle.std.proofs.lemmas.Bool.{cases_Bool, cases_lt, eq-eqb, false≢true}
use Rattle.plan_model.specs.PlanData.{PlanData}
use Rattle.input_state.specs.declared.inputs.Shut.{Shut}
use Rattle.input_state.specs.declared.inputs.Shut.TheVariants.{Held, Ended}
use Rattle.input_state.specs.Inputs.{shut_at, all_shut, any_held}
use Rattle.dataflow_model.specs.declared.message.Message.{Message}
use Rattle.dataflow_model.specs.declared.message.Message.TheVariants.{Rows, Fired, Watermark, Barrier, End}
use Rattle.dataflow_model.specs.Role.{is_source}
use Rattle.dataflow_model.specs.AbstractTask.{AbstractTask}
use Rattle.dataflow_model.specs.State.{State}
use Rattle.dataflow_model.specs.Steps.{Event, Open, Read, Save, Stop, Close, Take, Put, LocalStep}
use Rattle.dataflow_model.specs.Steps.LocalStep.{put, opens, reads, saves, stops, closes, chain_rows, chain_mark, window_rows, window_mark, sink_rows, sink_mark, holds, aligns, ends, ends_all, ends_aligned}
use Rattle.dataflow_model.specs.Runs.{Run, taken, sent, only, onto, given}
use Rattle.dataflow_model.specs.Runs.Run.{none, more}
use Rattle.dataflow_model.specs.Opening.{IsOpening}
use Rattle.dataflow_model.proofs.Facts.{given_put, no_source, not_a_source, all_shut_at}
use Rattle.dataflow_laws.specs.Kept.{has_barrier, AlignedIsComplete}
use Rattle.dataflow_laws.proofs.Aligning.{last_of}
use Rattle.dataflow_laws.proofs.Ends.{ended, Closed, HasEnds, IsIdle, has_ends, not_over, aligned_by}
use Rattle.dataflow_laws.proofs.Cuts.{Waits, Marks, Passes, marks_by, marks_barrier, end_now, passed_given, waits_step, waits_fresh, shut_closed}
use Rattle.dataflow_laws.proofs.Openings.{opened_as}
use Rattle.dataflow_laws.proofs.Complete.{ended_append, idle_of}

-- ---- logs

pub barrier_append : (n : ℕ) (xs ys : List Message) → has_barrier n ys ≡ true → has_barrier n (xs ++ ys) ≡ true
barrier_append n [] ys h = h
barrier_append n (Rows t ∷ xs) ys h = barrier_append n xs ys h
barrier_append n (Fired rows ∷ xs) ys h = barrier_append n xs ys h
barrier_append n (Watermark t ∷ xs) ys h = barrier_append n xs ys h
barrier_append n (Barrier m ∷ xs) ys h = elim (cases_Bool (eqb m n)) [ inl d ↦ rw d refl | inr d ↦ rw d (barrier_append n xs ys h) ]
barrier_append n (End ∷ xs) ys h = barrier_append n xs ys h

barrier_onto : (n : ℕ) (ms log : List Message) → has_barrier n log ≡ true → has_barrier n (onto ms log) ≡ true
barrier_onto n [] log h = h
barrier_onto n (m ∷ ms) log h = barrier_onto n ms (m ∷ log) (barrier_append n (m ∷ []) log h)

ended_onto : (n : ℕ) (ms log : List Message) → ended n log ≡ true → ended n (onto ms log) ≡ true
ended_onto n [] log h = h
ended_onto n (m ∷ ms) log h = ended_onto n ms (m ∷ log) (ended_append n (m ∷ []) log h)

-- what has come to an end by no barrier with this number has an end, which ends it for any number
by_end : (n x : ℕ) (log : List Message) → ended n log ≡ true → has_barrier n log ≡ false → ended x log ≡ true
by_end n x [] e b = absurd (false≢true e)
by_end n x (Rows t ∷ log) e b = by_end n x log e b
by_end n x (Fired rows ∷ log) e b = by_end n x log e b
by_end n x (Watermark t ∷ log) e b = by_end n x log e b
by_end n x (Barrier m ∷ log) e b = elim (cases_Bool (eqb m n)) [
  | inl d ↦ absurd (let now : true ≡ false = (rw d at b) in cc)
  | inr d ↦ ended_append x (Barrier m ∷ []) log (by_end n x log (rw d at e) (rw d at b))
]
by_end n x (End ∷ log) e b = refl

behind : (n : ℕ) (ms : List Message) (m : Message) (log : List Message) (last : Message) (before : List Message) → ended n log ≡ true → onto ms (m ∷ log) ≡ last ∷ before → ended n before ≡ true
behind n [] m log last before e is = let same : log ≡ before = cc in subst (λ b. ended n b ≡ true) same e
behind n (x ∷ ms) m log last before e is = behind n ms x (m ∷ log) last before (ended_append n (m ∷ []) log e) is

-- behind the last message none is pending
pub nothing_behind : (n : ℕ) (ms log : List Message) → ended n log ≡ true → Closed n (onto ms log) → ms ≡ []
nothing_behind n [] log e c = refl
nothing_behind n (m ∷ ms) log e c = absurd (false≢true (sym c.first ∙ behind n ms m log c.last c.before e c.is))

closed_ended : (n : ℕ) (log : List Message) → Closed n log → ended n log ≡ true
closed_ended n log c = ap (ended n) c.is ∙ ap (λ b. cond b true (ended n c.before)) c.is_end

-- ---- a task

-- each barrier on which a task has aligned came on each input, unless that has ended, and was given to each output
pub record Meets (k : AbstractTask) (es : List Event) (s : State) : Type 0 where
  pub came : is_source k.role ≡ false → (m : ℕ) → m < s.next → (i : ℕ) → i < k.inputs → ended (k.first + m) (taken i es) ≡ true
  pub gave : (m : ℕ) → m < s.next → (j : ℕ) → j < k.outputs → has_barrier (k.first + m) (given j es s) ≡ true

taken_more : (n x : ℕ) (e : Event) (es : List Event) → ended n (taken x es) ≡ true → ended n (taken x (e ∷ es)) ≡ true
taken_more n x Open es h = h
taken_more n x (Read q) es h = h
taken_more n x Save es h = h
taken_more n x Stop es h = h
taken_more n x Close es h = h
taken_more n x (Take i m) es h = elim (cases_Bool (eqb x i)) [ inl d ↦ rw d (ended_append n (m ∷ []) (taken x es) h) | inr d ↦ rw d h ]
taken_more n x (Put j m) es h = h

-- a step of a task with nothing pending that passes no barrier
meets_same : (k : AbstractTask) (es : List Event) (s : State) (e : Event) (s' : State) → s.pending ≡ [] → ((j : ℕ) → sent j (e ∷ es) ≡ sent j es) → s'.next ≡ s.next → Meets k es s → Meets k (e ∷ es) s'
meets_same k es s e s' idle un same r = record {
  came = λ ns m l i il. taken_more (k.first + m) i e es (r.came ns m (subst (λ n. m < n) same l) i il);
  gave = λ m l j jl.
      let was : has_barrier (k.first + m) (sent j es) ≡ true = sym (ap (λ p. has_barrier (k.first + m) (onto (only j p) (sent j es))) idle) ∙ r.gave m (subst (λ n. m < n) same l) j jl in
      barrier_onto (k.first + m) (only j s'.pending) (sent j (e ∷ es)) (ap (has_barrier (k.first + m)) (un j) ∙ was);
}

-- one that passes the next barrier, which has come on each input, unless that has ended
meets_past : (k : AbstractTask) (es : List Event) (s : State) (e : Event) (s' : State) → Passes k es s e s' → (is_source k.role ≡ false → (i : ℕ) → i < k.inputs → ended (k.first + s.next) (taken i (e ∷ es)) ≡ true) → Meets k es s → Meets k (e ∷ es) s'
meets_past k es s e s' b all r = record {
  came = λ ns m l i il. elim (cases_lt m s.next) [
    | inl less ↦ taken_more (k.first + m) i e es (r.came ns m less i il)
    | inr most ↦ (let next = b.next in let is : s.next ≡ m = omega (arith, l, most, next) in subst (λ n. ended (k.first + n) (taken i (e ∷ es)) ≡ true) is (all ns i il))
  ];
  gave = λ m l j jl. ap (has_barrier (k.first + m)) (passed_given k es s e s' b j jl) ∙ elim (cases_lt m s.next) [
    | inl less ↦ barrier_append (k.first + m) (Barrier (k.first + s.next) ∷ []) (given j es s) (r.gave m less j jl)
    | inr most ↦ (let next = b.next in let d = eq-eqb (k.first + s.next) (k.first + m) (omega (arith, l, most, next)) in rw d refl)
  ];
}

-- the barrier has come on every input, as all are shut by it
all_came : (k : AbstractTask) (es : List Event) (s : State) (i : ℕ) (m : Message) (shut : List Shut) → all_shut shut ≡ true → Marks k es s i m shut → (x : ℕ) → x < k.inputs → ended (k.first + s.next) (taken x (Take i m ∷ es)) ≡ true
all_came k es s i m shut all by x l = closed_ended (k.first + s.next) (taken x (Take i m ∷ es)) (shut_closed k.first (shut_at shut x) s.next (taken x (Take i m ∷ es)) (all_shut_at shut x all) (by.waits x l))

meets_step : (p : PlanData) (k : AbstractTask) (es : List Event) (s : State) (e : Event) (s' : State) → LocalStep p k s e s' → HasEnds k es s → Waits k es s → Meets k es s → Meets k (e ∷ es) s'
meets_step p k es s e s' (put {j = i} {m = m} {rest = rest} is) he w r =
    let same : (j : ℕ) → given j (Put i m ∷ es) (record s { pending = rest }) ≡ given j es s = λ j. given_put j i m rest (sent j es) ∙ ap (λ p. onto (only j p) (sent j es)) (sym is) in
    record { came = r.came; gave = λ n l j jl. ap (has_barrier (k.first + n)) (same j) ∙ r.gave n l j jl }
meets_step p k es s e s' (opens can) he w r = meets_same k es s Open s' can.idle (λ j. refl) refl r
meets_step p k es s e s' (reads {n = n} own) he w r = meets_same k es s (Read n) s' own.can.can.idle (λ j. refl) refl r
meets_step p k es s e s' (saves can may) he w r =
    meets_past k es s Save s' (record { idle = can.idle; going = can.going; unsent = λ j. refl; puts = refl; next = refl }) (λ ns. absurd (no_source k ns can.source)) r
meets_step p k es s e s' (stops can may) he w r =
    meets_past k es s Stop s' (record { idle = can.idle; going = can.going; unsent = λ j. refl; puts = refl; next = refl }) (λ ns. absurd (no_source k ns can.source)) r
meets_step p k es s e s' (closes can may) he w r = meets_same k es s Close s' can.idle (λ j. refl) refl r
meets_step p k es s e s' (chain_rows {i = i} {t = t} a takes) he w r = meets_same k es s (Take i (Rows t)) s' takes.can.idle (λ j. refl) refl r
meets_step p k es s e s' (chain_mark {i = i} {t = t} a takes) he w r = meets_same k es s (Take i (Watermark t)) s' takes.can.idle (λ j. refl) refl r
meets_step p k es s e s' (window_rows {i = i} {t = t} a takes added) he w r = meets_same k es s (Take i (Rows t)) s' takes.can.idle (λ j. refl) refl r
meets_step p k es s e s' (window_mark {i = i} {t = t} rows a takes fires) he w r = meets_same k es s (Take i (Watermark t)) s' takes.can.idle (λ j. refl) refl r
meets_step p k es s e s' (sink_rows {i = i} {rows = rows} a takes) he w r = meets_same k es s (Take i (Fired rows)) s' takes.can.idle (λ j. refl) refl r
meets_step p k es s e s' (sink_mark {i = i} {t = t} a takes) he w r = meets_same k es s (Take i (Watermark t)) s' takes.can.idle (λ j. refl) refl r
meets_step p k es s e s' (holds {i = i} {n = n} takes is) he w r = meets_same k es s (Take i (Barrier n)) s' takes.can.idle (λ j. refl) refl r
meets_step p k es s e s' (aligns {i = i} {n = n} takes is) he w r =
    let ov = not_over k es s i takes.can.taker takes.can.free he in
    let shut = set s.inputs.shut i Held in
    let by = marks_barrier k es s i n takes.admitted.0 takes.can.taker ov takes.can.input takes.can.free he w in
    meets_past k es s (Take i (Barrier n)) s' (record { idle = takes.can.idle; going = ov; unsent = λ j. refl; puts = refl; next = refl })
    (λ ns x l. all_came k es s i (Barrier n) shut (aligned_by (all_shut shut) (any_held shut) is).0 by x l) r
meets_step p k es s e s' (ends {i = i} takes is) he w r = meets_same k es s (Take i End) s' takes.can.idle (λ j. refl) refl r
meets_step p k es s e s' (ends_all {i = i} takes is) he w r = meets_same k es s (Take i End) s' takes.can.idle (λ j. refl) refl r
meets_step p k es s e s' (ends_aligned {i = i} takes is) he w r =
    let ov = not_over k es s i takes.can.taker takes.can.free he in
    let shut = set s.inputs.shut i Ended in
    let by = marks_by k es s i End Ended (end_now k.first s.next) takes.can.taker ov takes.can.input takes.can.free he w in
    meets_past k es s (Take i End) s' (record { idle = takes.can.idle; going = ov; unsent = λ j. refl; puts = refl; next = refl })
    (λ ns x l. all_came k es s i End shut (aligned_by (all_shut shut) (any_held shut) is).0 by x l) r

record HasMet (k : AbstractTask) (es : List Event) (s : State) : Type 0 where
  waits : Waits k es s
  meets : Meets k es s

has_met : (p : PlanData) (k : AbstractTask) (from : State) → IsIdle k from → from.next ≡ 0 → from.kept ≡ [] → {es : List Event} {s : State} → Run p k from es s → HasMet k es s
has_met p k from f fn fk none = record { waits = waits_fresh k from f fn fk; meets = record { came = λ ns m l. absurd (omega (arith, l, fn)); gave = λ m l. absurd (omega (arith, l, fn)) } }
has_met p k from f fn fk (more {es = es} {s = s} {e = e} {s' = s'} run st) =
    let r = has_met p k from f fn fk run in
    let he = has_ends p k from f run in
    record { waits = waits_step p k es s e s' st he r.waits; meets = meets_step p k es s e s' st he r.waits r.meets }

pub met : (p : PlanData) (k : AbstractTask) (from : State) (es : List Event) (s : State) → IsOpening p k.role k from → Run p k from es s → Meets k es s
met p k from es s o run =
    let a = opened_as p k.role k from o in
    (has_met p k from (idle_of p k.role k from o) (ap (λ (t : State). t.next) a.is) (ap (λ (t : State). t.kept) a.is) run).meets

-- ---- a layout

-- what was given is what was sent, where that has come to the last message
sent_barrier : (k : AbstractTask) (es : List Event) (s : State) (j n : ℕ) → HasEnds k es s → j < k.outputs → ended n (sent j es) ≡ true → has_barrier n (given j es s) ≡ true → has_barrier n (sent j es) ≡ true
sent_barrier k es s j n he l came gave = elim (cases_Bool (has_barrier n (sent j es))) [
  | inl d ↦ d
  | inr d ↦
      (let stop : ended (last_of k) (sent j es) ≡ true = by_end n (last_of k) (sent j es) came d in
      let over : s.over ≡ true = elim (cases_Bool s.over) [ inl o ↦ o | inr g ↦ absurd (false≢true (sym (he.going g j l) ∙ ended_onto (last_of k) (only j s.pending) (sent j es) stop)) ] in
      let none_left : only j s.pending ≡ [] = nothing_behind (last_of k) (only j s.pending) (sent j es) stop (he.closed over j l) in
      sym (ap (λ ms. has_barrier n (onto ms (sent j es))) none_left) ∙ gave)
]

pub aligned_is_complete : AlignedIsComplete
aligned_is_complete p l start m ok st h aligned = record {
  aligned = aligned;
  put = λ t j tl jl.
      let u = l.to t j in
      let o = ok.output t j jl in
      let ns = not_a_source (l.task u).role (λ a. false≢true (sym (ok.no_ring_in t u a) ∙ o.0)) in
      let same : (l.task u).first + m ≡ (l.task t).first + m = (let a = (st.leg.alike t tl).0 in let b = (st.leg.alike u o.2).0 in omega (arith, a, b)) in
      let came = (met p (l.task u) (start u) (h.steps u) (h.end u) (st.opens u o.2) (h.run u)).came ns m (aligned u o.2) (l.in_at t u) (ok.ring_in t u o.0).0 in
      let n = (l.task t).first + m in
      let there : ended n (sent (l.out_at t u) (h.steps t)) ≡ true =
      ap (ended n) (h.rings t u o.0) ∙ ended_append n (h.holds t u) (taken (l.in_at t u) (h.steps u)) (subst (λ x. ended x (taken (l.in_at t u) (h.steps u)) ≡ true) same came) in
      let here : ended n (sent j (h.steps t)) ≡ true = subst (λ x. ended n (sent x (h.steps t)) ≡ true) o.1 there in
      let he = has_ends p (l.task t) (start t) (idle_of p (l.task t).role (l.task t) (start t) (st.opens t tl)) (h.run t) in
      sent_barrier (l.task t) (h.steps t) (h.end t) j n he jl here ((met p (l.task t) (start t) (h.steps t) (h.end t) (st.opens t tl) (h.run t)).gave m (aligned t tl) j jl);
}
