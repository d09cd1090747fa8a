-- What a task has given and taken, and how many barriers it has passed once it is over.
use Rattle.std.proofs.Common.{◌≡◌, ℕ, zero, suc, ◌+◌, ◌<◌, ◌≤◌, ℤ, List, [], ◌∷◌, Bool, true, false, eqb, set, get_or-set_other, replicate, refl, sym, ap, subst, ◌∙◌, inl, inr, arith, if◌then◌else◌}
use Rattle.std.specs.Prelude.{slice_index}
use Rattle.std.proofs.lemmas.Bool.{cases_Bool, cases_eq, eq-eqb, ne_eqb, false≢true}
use Rattle.plan_model.specs.PlanData.{PlanData}
use Rattle.input_state.specs.declared.inputs.Shut.{Shut}
use Rattle.input_state.specs.declared.inputs.Shut.TheVariants.{Free, Held, Ended}
use Rattle.input_state.specs.declared.inputs.Aligned.TheVariants as aligned
use Rattle.plain_data.specs.Times.{lowest}
use Rattle.input_state.specs.Inputs.{inputs_from, least, risen, rise, is_free, shut_at, all_shut, any_held, alignment, released}
use Rattle.dataflow_model.specs.declared.message.Message.{Message}
use Rattle.dataflow_model.specs.declared.message.Message.TheVariants.{Rows, Fired, Watermark, Barrier, End}
use Rattle.dataflow_model.specs.declared.role.Role.{Role}
use Rattle.dataflow_model.specs.declared.role.Role.TheVariants.{Source, Chain, Window, Sink}
use Rattle.dataflow_model.specs.declared.ending.Ending.{Ending}
use Rattle.dataflow_model.specs.declared.ending.Ending.TheVariants.{AtEnd, AtCut, Asked}
use Rattle.dataflow_model.specs.Role.{is_source}
use Rattle.dataflow_model.specs.AbstractTask.{AbstractTask}
use Rattle.dataflow_model.specs.State.{State, Windows}
use Rattle.dataflow_model.specs.Opening.{opening, IsOpening}
use Rattle.dataflow_model.specs.Routes.{route_of, to_all, announce, fired}
use Rattle.dataflow_model.specs.Steps.{Event, Open, Read, Save, Stop, Close, Take, LocalStep, CanRun, CanTake, MayClose, is_last, past_barrier}
use Rattle.dataflow_model.specs.Steps.LocalStep.{put, opens, reads, saves, stops, closes, chain_rows, chain_mark, window_rows, window_mark, sink_rows, sink_mark, holds, aligns, ends, ends_all, ends_aligned}
use Rattle.dataflow_model.specs.Runs.{Run, taken, sent, only, onto, given}
use Rattle.dataflow_model.specs.Runs.Run.{none, more}
use Rattle.dataflow_model.proofs.Facts.{free_is, get_free, given_put, given_spread, no_source, released_at, all_shut_at, none_held_at, all_ended_by, stops_last, last_is}
use Rattle.seal_laws.proofs.Logs.{barriers_in, has_end, is_plain, ArePlain, plain_append, plain_route, plain_route_of, plain_announce, plain_fired, IsGiven, given_none, given_plain, given_barrier, given_end, IsTaken, taken_plain, taken_more, taken_let_go}

-- ---- inputs that are shut

shut_now : (ss : List Shut) (i : ℕ) (v : Shut) → is_free (shut_at ss i) ≡ true → shut_at (set ss i v) i ≡ v
shut_now [] i v f = absurd (false≢true f)
shut_now (s ∷ ss) zero v f = refl
shut_now (s ∷ ss) (suc i) v f = shut_now ss i v f

by_barrier : (a h : Bool) → (if a then (if h then aligned.Barrier else aligned.AllEnded) else aligned.Waiting) ≡ aligned.Barrier → a ≡ true
by_barrier true h e = refl
by_barrier false h e = absurd cc

-- ---- a task

-- what a task has given and taken; one that is over has passed the barriers on the way, or all its inputs have ended
pub record HasPassed (k : AbstractTask) (es : List Event) (s : State) : Type 0 where
  pub outputs : (j : ℕ) → j < k.outputs → IsGiven s.next s.over (given j es s)
  pub inputs : is_source k.role ≡ false → (i : ℕ) → i < k.inputs → IsTaken s.next (shut_at s.inputs.shut i) (taken i es)
  pub shut : is_source k.role ≡ false → s.over ≡ true → all_shut s.inputs.shut ≡ true
  pub unheld : is_source k.role ≡ false → s.over ≡ true → s.next < k.saves → any_held s.inputs.shut ≡ false
  pub source : k.role ≡ Source → s.over ≡ true → (s.opened ≡ true) × (k.saves ≤ s.next)

-- a task that takes is not over
not_over : (k : AbstractTask) (es : List Event) (s : State) (i : ℕ) → CanTake k s i → HasPassed k es s → s.over ≡ false
not_over k es s i can r = elim (cases_Bool s.over) [
  | inr e ↦ e
  | inl e ↦ absurd (all_shut_at s.inputs.shut i (r.shut can.taker e) (free_is (shut_at s.inputs.shut i) can.free))
]

-- nor is one that opens
not_over_shut : (k : AbstractTask) (es : List Event) (s : State) → k.role ≡ Source → s.opened ≡ false → HasPassed k es s → s.over ≡ false
not_over_shut k es s a shut r = elim (cases_Bool s.over) [
  | inr e ↦ e
  | inl e ↦ absurd (false≢true (sym shut ∙ (r.source a e).0))
]

-- a task that goes on, with nothing pending
record GoesOn (s : State) : Type 0 where
  going : s.over ≡ false
  idle : s.pending ≡ []

idle_plain : (ps : List (ℕ × Message)) → ps ≡ [] → ArePlain ps
idle_plain [] e = tt
idle_plain (p ∷ ps) e = absurd cc

-- a step that makes neither a barrier nor an end pending, and takes none
passed_plain : (k : AbstractTask) (es : List Event) (s : State) (e : Event) (s' : State) → GoesOn s → s'.over ≡ s.over → s'.next ≡ s.next → s'.inputs.shut ≡ s.inputs.shut → ArePlain s'.pending → ((j : ℕ) → sent j (e ∷ es) ≡ sent j es)
    → (is_source k.role ≡ false → (i : ℕ) → i < k.inputs → IsTaken s.next (shut_at s.inputs.shut i) (taken i (e ∷ es))) → HasPassed k es s → HasPassed k (e ∷ es) s'
passed_plain k es s e s' on oe ne se plain un took r = record {
  outputs = λ j l.
      let was : IsGiven s.next s.over (sent j (e ∷ es)) = subst (IsGiven s.next s.over) (ap (λ p. onto (only j p) (sent j es)) on.idle ∙ sym (un j)) (r.outputs j l) in
      subst (λ n. IsGiven n s'.over (given j (e ∷ es) s')) (sym ne) (subst (λ o. IsGiven s.next o (given j (e ∷ es) s')) (sym oe) (given_plain s.next s.over j s'.pending (sent j (e ∷ es)) on.going plain was));
  inputs = λ ns i l. subst (λ n. IsTaken n (shut_at s'.inputs.shut i) (taken i (e ∷ es))) (sym ne) (subst (λ ss. IsTaken s.next (shut_at ss i) (taken i (e ∷ es))) (sym se) (took ns i l));
  shut = λ ns o. absurd (false≢true (sym on.going ∙ sym oe ∙ o));
  unheld = λ ns o. absurd (false≢true (sym on.going ∙ sym oe ∙ o));
  source = λ a o. absurd (false≢true (sym on.going ∙ sym oe ∙ o));
}

-- one of a source
passed_read : (k : AbstractTask) (es : List Event) (s : State) (e : Event) (s' : State) → GoesOn s → s'.over ≡ s.over → s'.next ≡ s.next → s'.inputs.shut ≡ s.inputs.shut → ArePlain s'.pending → ((j : ℕ) → sent j (e ∷ es) ≡ sent j es) → k.role ≡ Source → HasPassed k es s → HasPassed k (e ∷ es) s'
passed_read k es s e s' on oe ne se plain un a r = passed_plain k es s e s' on oe ne se plain un (λ ns. absurd (no_source k ns a)) r

-- one that takes such a message
passed_take : (k : AbstractTask) (es : List Event) (s : State) (i : ℕ) (m : Message) (s' : State) → CanTake k s i → is_plain m ≡ true → s'.over ≡ s.over → s'.next ≡ s.next → s'.inputs.shut ≡ s.inputs.shut → ArePlain s'.pending → HasPassed k es s → HasPassed k (Take i m ∷ es) s'
passed_take k es s i m s' can p oe ne se plain r =
    passed_plain k es s (Take i m) s' (record { going = not_over k es s i can r; idle = can.idle }) oe ne se plain (λ j. refl) (λ ns x l. elim (cases_Bool (eqb x i)) [
      | inl d ↦ rw d (taken_plain s.next (shut_at s.inputs.shut x) m (taken x es) p (r.inputs ns x l))
      | inr d ↦ rw d (r.inputs ns x l)
    ]) r

-- the inputs, where one is shut by a message that it takes
shut_by : (k : AbstractTask) (es : List Event) (s : State) (i : ℕ) (m : Message) (v : Shut) → CanTake k s i → ((log : List Message) → IsTaken s.next Free log → IsTaken s.next v (m ∷ log)) → HasPassed k es s
    → (x : ℕ) → x < k.inputs → IsTaken s.next (shut_at (set s.inputs.shut i v) x) (taken x (Take i m ∷ es))
shut_by k es s i m v can by r x l = elim (cases_eq x i) [
  | inl e ↦
      (let d = eq-eqb x i e in
      let was : IsTaken s.next Free (taken x es) = subst (λ w. IsTaken s.next w (taken x es)) (ap (shut_at s.inputs.shut) e ∙ free_is (shut_at s.inputs.shut i) can.free) (r.inputs can.taker x l) in
      let now : shut_at (set s.inputs.shut i v) x ≡ v = ap (shut_at (set s.inputs.shut i v)) e ∙ shut_now s.inputs.shut i v can.free in
      rw d (subst (λ w. IsTaken s.next w (m ∷ taken x es)) (sym now) (by (taken x es) was)))
  | inr ne ↦
      (let d = ne_eqb x i ne in
      rw d (subst (λ w. IsTaken s.next w (taken x es)) (sym (get_or-set_other s.inputs.shut i x v Ended ne)) (r.inputs can.taker x l)))
]

-- a barrier holds the input that it comes on
held_by : (n x : ℕ) (log : List Message) → IsTaken n Free log → IsTaken n Held (Barrier x ∷ log)
held_by n x log r = omega (arith, r)

-- an end ends it
ended_by : (n : ℕ) (log : List Message) → IsTaken n Free log → IsTaken n Ended (End ∷ log)
ended_by n log r = (r, refl)

-- others wait
passed_wait : (k : AbstractTask) (es : List Event) (s : State) (i : ℕ) (m : Message) (v : Shut) → CanTake k s i → ((log : List Message) → IsTaken s.next Free log → IsTaken s.next v (m ∷ log)) → HasPassed k es s
    → HasPassed k (Take i m ∷ es) (record s { inputs = inputs_from s.inputs.marks (set s.inputs.shut i v) })
passed_wait k es s i m v can by r =
    let going = not_over k es s i can r in
    record {
      outputs = r.outputs;
      inputs = λ ns. shut_by k es s i m v can by r;
      shut = λ ns o. absurd (false≢true (sym going ∙ o));
      unheld = λ ns o. absurd (false≢true (sym going ∙ o));
      source = λ a. absurd (no_source k can.taker a);
    }

-- what is given by a task with nothing pending that makes a message pending for all outputs
given_all : (k : AbstractTask) (m : Message) (n : ℕ) (over : Bool) (j : ℕ) (log : List Message) (ps : List (ℕ × Message)) → ps ≡ [] → j < k.outputs → IsGiven n over (m ∷ onto (only j ps) log) → IsGiven n over (onto (only j (to_all k.outputs m)) log)
given_all k m n over j log ps idle l = subst (IsGiven n over) (sym (given_spread k.outputs (λ j. m ∷ []) j log ps idle l))

-- an input that is let go, unless the barrier was that of a stop
next_taken : (last : Bool) (ss : List Shut) (x n : ℕ) (log : List Message) → IsTaken n (shut_at ss x) log → IsTaken (suc n) (shut_at (if last then ss else released ss) x) log
next_taken true ss x n log r = taken_more n (shut_at ss x) log r
next_taken false ss x n log r = subst (λ v. IsTaken (suc n) v log) (sym (released_at ss x)) (taken_let_go n (shut_at ss x) log r)

-- all inputs have come to the barrier
passed_barrier : (k : AbstractTask) (es : List Event) (s : State) (i : ℕ) (m : Message) (v : Shut) → CanTake k s i → ((log : List Message) → IsTaken s.next Free log → IsTaken s.next v (m ∷ log)) → alignment (set s.inputs.shut i v) ≡ aligned.Barrier → HasPassed k es s
    → HasPassed k (Take i m ∷ es) (past_barrier k s (set s.inputs.shut i v))
passed_barrier k es s i m v can by align r =
    let ss = set s.inputs.shut i v in
    let last = is_last k s.next in
    let going = not_over k es s i can r in
    record {
      outputs = λ j l. given_all k (Barrier (k.first + s.next)) (suc s.next) last j (sent j es) s.pending can.idle l (given_barrier s.next s.over (k.first + s.next) last (given j es s) going (r.outputs j l));
      inputs = λ ns x l. next_taken last ss x s.next (taken x (Take i m ∷ es)) (shut_by k es s i m v can by r x l);
      shut = λ ns o. ap (λ b. all_shut (if b then ss else released ss)) o ∙ by_barrier (all_shut ss) (any_held ss) align;
      unheld = λ ns o few. absurd (let here = last_is k s.next o in omega (arith, here, few));
      source = λ a. absurd (no_source k can.taker a);
    }

-- all inputs have ended
passed_ends : (k : AbstractTask) (es : List Event) (s : State) (i : ℕ) → CanTake k s i → alignment (set s.inputs.shut i Ended) ≡ aligned.AllEnded → HasPassed k es s
    → HasPassed k (Take i End ∷ es) (record s { inputs = inputs_from s.inputs.marks (set s.inputs.shut i Ended); over = true; pending = to_all k.outputs End })
passed_ends k es s i can align r =
    let ss = set s.inputs.shut i Ended in
    let all = all_ended_by (all_shut ss) (any_held ss) align in
    record {
      outputs = λ j l. given_all k End s.next true j (sent j es) s.pending can.idle l (given_end s.next s.over (given j es s) (not_over k es s i can r) (r.outputs j l));
      inputs = λ ns. shut_by k es s i End Ended can (ended_by s.next) r;
      shut = λ ns o. all.0;
      unheld = λ ns o few. all.1;
      source = λ a. absurd (no_source k can.taker a);
    }

-- a source
passed_source : (k : AbstractTask) (es : List Event) (s' : State) (e : Event) → k.role ≡ Source → ((j : ℕ) → j < k.outputs → IsGiven s'.next s'.over (given j (e ∷ es) s')) → (s'.over ≡ true → (s'.opened ≡ true) × (k.saves ≤ s'.next)) → HasPassed k (e ∷ es) s'
passed_source k es s' e a given over = record {
  outputs = given;
  inputs = λ ns. absurd (no_source k ns a);
  shut = λ ns. absurd (no_source k ns a);
  unheld = λ ns. absurd (no_source k ns a);
  source = λ _. over;
}

-- that makes its next barrier pending
source_barrier : (k : AbstractTask) (es : List Event) (s : State) (over : Bool) → CanRun k s → HasPassed k es s → (j : ℕ) → j < k.outputs → IsGiven (suc s.next) over (onto (only j (to_all k.outputs (Barrier (k.first + s.next)))) (sent j es))
source_barrier k es s over can r j l = given_all k (Barrier (k.first + s.next)) (suc s.next) over j (sent j es) s.pending can.idle l (given_barrier s.next s.over (k.first + s.next) over (given j es s) can.going (r.outputs j l))

closes_late : (ending : Ending) (k : AbstractTask) (s : State) → MayClose ending k s → s.next ≡ k.saves
closes_late AtEnd k s may = may.0
closes_late AtCut k s may = absurd may
closes_late Asked k s may = may.0

passed_step : (p : PlanData) (k : AbstractTask) (es : List Event) (s : State) (e : Event) (s' : State) → LocalStep p k s e s' → HasPassed k es s → HasPassed k (e ∷ es) s'
passed_step p k es s e s' (put {j = i} {m = m} {rest = rest} is) r = record {
  outputs = λ j l. subst (IsGiven s.next s.over) (ap (λ ps. onto (only j ps) (sent j es)) is ∙ sym (given_put j i m rest (sent j es))) (r.outputs j l);
  inputs = r.inputs;
  shut = r.shut;
  unheld = r.unheld;
  source = r.source;
}
passed_step p k es s e s' (opens can) r =
    passed_read k es s Open s' (record { going = not_over_shut k es s can.source can.shut r; idle = can.idle }) refl refl refl (plain_announce k.outputs (risen lowest (least s.inputs.marks))) (λ j. refl) can.source r
passed_step p k es s e s' (reads {n = n} {q = q} own) r =
    let read = slice_index s.offsets q in
    let rows = route_of p.window.key k s.cursor (k.entry q read) in
    let mark = announce k.outputs (rise s.inputs.marks q (k.brings q read)) in
    passed_read k es s (Read n) s' (record { going = own.can.can.going; idle = own.can.can.idle }) refl refl refl
    (plain_append rows mark (plain_route_of p.window.key k s.cursor (k.entry q read)) (plain_announce k.outputs (rise s.inputs.marks q (k.brings q read)))) (λ j. refl) own.can.can.source r
passed_step p k es s e s' (saves can may) r = passed_source k es s' Save can.source (source_barrier k es s s.over can r) (λ o. absurd (false≢true (sym can.going ∙ o)))
passed_step p k es s e s' (stops can may) r =
    passed_source k es s' Stop can.source (source_barrier k es s true can r) (λ o. (can.opened, let late = stops_last k.ending k s may in omega (arith, late)))
passed_step p k es s e s' (closes can may) r =
    passed_source k es s' Close can.source (λ j l. given_all k End s.next true j (sent j es) s.pending can.idle l (given_end s.next s.over (given j es s) can.going (r.outputs j l)))
    (λ o. (can.opened, let late = closes_late k.ending k s may in omega (arith, late)))
passed_step p k es s e s' (chain_rows {i = i} {t = t} a takes) r = passed_take k es s i (Rows t) s' takes.can refl refl refl refl (plain_route p.window.key k s.cursor t) r
passed_step p k es s e s' (chain_mark {i = i} {t = t} a takes) r = passed_take k es s i (Watermark t) s' takes.can refl refl refl refl (plain_announce k.outputs (rise s.inputs.marks i t)) r
passed_step p k es s e s' (window_rows {i = i} {t = t} a takes added) r = passed_take k es s i (Rows t) s' takes.can refl refl refl refl (idle_plain s.pending takes.can.idle) r
passed_step p k es s e s' (window_mark {i = i} {t = t} rows a takes fires) r =
    passed_take k es s i (Watermark t) s' takes.can refl refl refl refl (plain_append (fired rows) (announce k.outputs (rise s.inputs.marks i t)) (plain_fired rows) (plain_announce k.outputs (rise s.inputs.marks i t))) r
passed_step p k es s e s' (sink_rows {i = i} {rows = rows} a takes) r = passed_take k es s i (Fired rows) s' takes.can refl refl refl refl (idle_plain s.pending takes.can.idle) r
passed_step p k es s e s' (sink_mark {i = i} {t = t} a takes) r = passed_take k es s i (Watermark t) s' takes.can refl refl refl refl (idle_plain s.pending takes.can.idle) r
passed_step p k es s e s' (holds {i = i} {n = n} takes is) r = passed_wait k es s i (Barrier n) Held takes.can (held_by s.next n) r
passed_step p k es s e s' (aligns {i = i} {n = n} takes is) r = passed_barrier k es s i (Barrier n) Held takes.can (held_by s.next n) is r
passed_step p k es s e s' (ends {i = i} takes is) r = passed_wait k es s i End Ended takes.can (ended_by s.next) r
passed_step p k es s e s' (ends_all {i = i} takes is) r = passed_ends k es s i takes.can is r
passed_step p k es s e s' (ends_aligned {i = i} takes is) r = passed_barrier k es s i End Ended takes.can (ended_by s.next) is r

-- ---- from its beginning

-- a task that has done nothing
record IsFresh (k : AbstractTask) (s : State) : Type 0 where
  going : s.over ≡ false
  idle : s.pending ≡ []
  next : s.next ≡ 0
  free : s.inputs.shut ≡ replicate k.inputs Free

fresh_by : (k : AbstractTask) (s : State) (offsets : List ℕ) (marks : List ℤ) (windows : Windows) → s ≡ opening k.inputs offsets marks windows → IsFresh k s
fresh_by k s offsets marks windows is = record { going = ap (λ (s : State). s.over) is; idle = ap (λ (s : State). s.pending) is; next = ap (λ (s : State). s.next) is; free = ap (λ (s : State). s.inputs.shut) is }

fresh : (p : PlanData) (role : Role) (k : AbstractTask) (s : State) → IsOpening p role k s → IsFresh k s
fresh p Source k s o = fresh_by k s o.offsets o.marks _ o.is
fresh p Chain k s o = fresh_by k s _ _ _ o
fresh p Window k s o = fresh_by k s _ _ o.0 o.1
fresh p Sink k s o = fresh_by k s _ _ _ o

passed_fresh : (k : AbstractTask) (s : State) → IsFresh k s → HasPassed k [] s
passed_fresh k s f = record {
  outputs = λ j l. subst (λ n. IsGiven n s.over (given j [] s)) (sym f.next) (subst (IsGiven 0 s.over) (ap (λ ps. onto (only j ps) []) (sym f.idle)) (given_none s.over));
  inputs = λ ns i l. subst (λ v. IsTaken s.next v []) (sym (ap (λ ss. shut_at ss i) f.free ∙ get_free k.inputs i l)) (omega arith);
  shut = λ ns o. absurd (false≢true (sym f.going ∙ o));
  unheld = λ ns o. absurd (false≢true (sym f.going ∙ o));
  source = λ a o. absurd (false≢true (sym f.going ∙ o));
}

passed_so : (p : PlanData) (k : AbstractTask) (from : State) → IsFresh k from → {es : List Event} {s : State} → Run p k from es s → HasPassed k es s
passed_so p k from f none = passed_fresh k from f
passed_so p k from f (more {es = es} {s = s} {e = e} {s' = s'} run st) = passed_step p k es s e s' st (passed_so p k from f run)

pub has_passed : (p : PlanData) (k : AbstractTask) (from : State) (es : List Event) (s : State) → IsOpening p k.role k from → Run p k from es s → HasPassed k es s
has_passed p k from es s o run = passed_so p k from (fresh p k.role k from o) run

-- ---- at its end

-- what was taken from an input that has ended
pub record IsAll (n : ℕ) (log : List Message) : Type 0 where
  pub few : barriers_in log ≤ n
  pub end : has_end log ≡ true

all_of : (n : ℕ) (v : Shut) (log : List Message) → (v ≡ Free → ⊥) → (v ≡ Held → ⊥) → IsTaken n v log → IsAll n log
all_of n Free log free held r = absurd (free refl)
all_of n Held log free held r = absurd (held refl)
all_of n Ended log free held r = record { few = r.0; end = r.1 }

-- a task that is over, and has not passed all barriers on the way, has got an end on each input
pub all_ended : (k : AbstractTask) (es : List Event) (s : State) → HasPassed k es s → is_source k.role ≡ false → s.over ≡ true → s.next < k.saves → (i : ℕ) → i < k.inputs → IsAll s.next (taken i es)
all_ended k es s r ns over few i l =
    all_of s.next (shut_at s.inputs.shut i) (taken i es) (all_shut_at s.inputs.shut i (r.shut ns over)) (none_held_at s.inputs.shut i (r.unheld ns over few)) (r.inputs ns i l)
