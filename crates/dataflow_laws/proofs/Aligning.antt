-- What a task has taken from each input, by how the input stands.
use Rattle.std.proofs.Common.{◌≡◌, ℕ, zero, suc, ◌+◌, ◌<◌, List, [], ◌∷◌, Bool, true, false, cond, eqb, ◌&&◌, length, set, replicate, refl, sym, ap, subst, ◌∙◌, inl, inr, arith, length-set, if◌then◌else◌}
use Rattle.std.proofs.lemmas.Bool.{cases_eq, cases_Bool, eq-eqb, ne_eqb, false≢true}
use Rattle.std.proofs.lemmas.List.{length-replicate, length-map, get_or-set_same, get_or-set_other}
use Rattle.plan_model.specs.PlanData.{PlanData}
use Rattle.input_state.specs.declared.inputs.Shut.{Shut}
use Rattle.input_state.specs.declared.inputs.Shut.TheVariants.{Free, Held, Ended}
use Rattle.input_state.specs.declared.inputs.Aligned.{Aligned}
use Rattle.input_state.specs.declared.inputs.Aligned.TheVariants as aligned
use Rattle.input_state.specs.Inputs.{is_free, shut_at, all_shut, any_held, alignment, let_go, released}
use Rattle.dataflow_model.specs.declared.message.Message.{Message}
use Rattle.dataflow_model.specs.declared.message.Message.TheVariants.{Rows, Fired, Watermark, Barrier, End}
use Rattle.dataflow_model.specs.Role.{is_source}
use Rattle.dataflow_model.specs.Ending.{may_stop}
use Rattle.dataflow_model.specs.AbstractTask.{AbstractTask}
use Rattle.dataflow_model.specs.State.{State}
use Rattle.dataflow_model.specs.Steps.{Event, Take, LocalStep, CanTake, barriers, is_last}
use Rattle.dataflow_model.specs.Steps.LocalStep.{put, opens, reads, saves, stops, closes, chain_rows, chain_mark, window_rows, window_mark, sink_rows, sink_mark, holds, aligns, ends, ends_all, ends_aligned}
use Rattle.dataflow_model.specs.Runs.{Run, taken}
use Rattle.dataflow_model.specs.Runs.Run.{none, more}
use Rattle.dataflow_laws.proofs.Opened.{IsFresh}
use Rattle.dataflow_laws.proofs.Marks.{is_final, ended, passed, IsQuiet, passed_quiet, ended_quiet}
use Rattle.dataflow_model.proofs.Facts.{free_is, get_free, released_at}

-- whether a task's leg may stop, and the number of that barrier
abbrev pub last_of : AbstractTask → ℕ
last_of k = k.first + k.saves

abbrev pub has_ended : AbstractTask → List Message → Bool
has_ended k log = ended (may_stop k.ending) (last_of k) log

eqb_add : (f a c : ℕ) → eqb (f + a) (f + c) ≡ eqb a c
eqb_add f a c = elim (cases_eq a c) [
  | inl e ↦ eq-eqb (f + a) (f + c) (omega (arith, e)) ∙ sym (eq-eqb a c e)
  | inr n ↦ ne_eqb (f + a) (f + c) (λ e. n (omega (arith, e))) ∙ sym (ne_eqb a c n)
]

pub final_is : (k : AbstractTask) (n : ℕ) → is_final (may_stop k.ending) (last_of k) (Barrier (k.first + n)) ≡ is_last k n
final_is k n = ap (λ b. may_stop k.ending && b) (eqb_add k.first n k.saves)

-- a free input has given as many barriers as the task has aligned on, and one that is held one more
abbrev pub InputIs : AbstractTask → Bool → ℕ → Shut → List Message → Type 0
InputIs k over next Free log = (passed log ≡ next) × (has_ended k log ≡ false)
InputIs k over next Held log = (over ≡ false → (passed log ≡ suc next) × (has_ended k log ≡ is_last k next) × (next < barriers k)) × (over ≡ true → has_ended k log ≡ true)
InputIs k over next Ended log = has_ended k log ≡ true

-- ---- how inputs stand

pub shut_free : (ss : List Shut) (i : ℕ) → is_free (shut_at ss i) ≡ true → all_shut ss ≡ false
shut_free [] i e = absurd cc
shut_free (Free ∷ ss) i e = refl
shut_free (Held ∷ ss) zero e = absurd cc
shut_free (Held ∷ ss) (suc i) e = shut_free ss i e
shut_free (Ended ∷ ss) zero e = absurd cc
shut_free (Ended ∷ ss) (suc i) e = shut_free ss i e

held_any : (ss : List Shut) (i : ℕ) → shut_at ss i ≡ Held → any_held ss ≡ true
held_any [] i e = absurd cc
held_any (Free ∷ ss) zero e = absurd cc
held_any (Free ∷ ss) (suc i) e = held_any ss i e
held_any (Held ∷ ss) i e = refl
held_any (Ended ∷ ss) zero e = absurd cc
held_any (Ended ∷ ss) (suc i) e = held_any ss i e

some_held : (ss : List Shut) → any_held ss ≡ true → (i : ℕ) × (i < length ss) × (shut_at ss i ≡ Held)
some_held [] e = absurd cc
some_held (Held ∷ ss) e = (0, omega arith, refl)
some_held (Free ∷ ss) e = let r = some_held ss e in (suc r.0, (let l = r.1 in omega (arith, l)), r.2)
some_held (Ended ∷ ss) e = let r = some_held ss e in (suc r.0, (let l = r.1 in omega (arith, l)), r.2)

pub some_free : (ss : List Shut) → all_shut ss ≡ false → (i : ℕ) × (i < length ss) × (shut_at ss i ≡ Free)
some_free [] e = absurd cc
some_free (Free ∷ ss) e = (0, omega arith, refl)
some_free (Held ∷ ss) e = let r = some_free ss e in (suc r.0, (let l = r.1 in omega (arith, l)), r.2)
some_free (Ended ∷ ss) e = let r = some_free ss e in (suc r.0, (let l = r.1 in omega (arith, l)), r.2)

released_free : (ss : List Shut) → any_held ss ≡ true → all_shut (released ss) ≡ false
released_free [] e = absurd cc
released_free (Free ∷ ss) e = refl
released_free (Held ∷ ss) e = refl
released_free (Ended ∷ ss) e = released_free ss e

all_free : (n : ℕ) → 0 < n → all_shut (replicate n Free) ≡ false
all_free zero l = absurd (omega arith)
all_free (suc n) l = refl

-- what an alignment says
abbrev pub answer : Bool → Bool → Aligned
answer a h = if a then (if h then aligned.Barrier else aligned.AllEnded) else aligned.Waiting

waiting : (a h : Bool) → answer a h ≡ aligned.Waiting → a ≡ false
waiting true true e = absurd cc
waiting true false e = absurd cc
waiting false h e = refl

pub aligned_both : (a h : Bool) → answer a h ≡ aligned.Barrier → (a ≡ true) × (h ≡ true)
aligned_both true true e = (refl, refl)
aligned_both true false e = absurd cc
aligned_both false h e = absurd cc

ended_both : (a h : Bool) → answer a h ≡ aligned.AllEnded → (a ≡ true) × (h ≡ false)
ended_both true true e = absurd cc
ended_both true false e = (refl, refl)
ended_both false h e = absurd cc

-- ---- one input

-- it takes the next barrier, or the end
took_barrier : (k : AbstractTask) (next n : ℕ) (log : List Message) → n ≡ k.first + next → next < barriers k → InputIs k false next Free log → InputIs k false next Held (Barrier n ∷ log)
took_barrier k next n log e l h =
    let f : has_ended k (Barrier n ∷ log) ≡ is_last k next =
    ap (λ x. cond (is_final (may_stop k.ending) (last_of k) (Barrier x)) true (has_ended k log)) e ∙ ap (λ b. cond b true (has_ended k log)) (final_is k next) ∙ ap (cond (is_last k next) true) h.1 ∙ whole (is_last k next) in
    ((λ o. ((let p = h.0 in omega (arith, p)), f, l)), λ o. absurd (false≢true o))
  where
    whole : (b : Bool) → cond b true false ≡ b
    whole true = refl
    whole false = refl

-- a quiet message
input_quiet : (k : AbstractTask) (over : Bool) (next : ℕ) (v : Shut) (m : Message) (log : List Message) → IsQuiet m → InputIs k over next v log → InputIs k over next v (m ∷ log)
input_quiet k over next Free m log q h = (passed_quiet m log q ∙ h.0, ended_quiet (may_stop k.ending) (last_of k) m log q ∙ h.1)
input_quiet k over next Held m log q h = ((λ o. let x = h.0 o in (passed_quiet m log q ∙ x.0, ended_quiet (may_stop k.ending) (last_of k) m log q ∙ x.1, x.2)), λ o. ended_quiet (may_stop k.ending) (last_of k) m log q ∙ h.1 o)
input_quiet k over next Ended m log q h = ended_quiet (may_stop k.ending) (last_of k) m log q ∙ h

-- all inputs have come to the barrier: the task is over, or they are let go
past : (k : AbstractTask) (next : ℕ) (log : List Message) (v : Shut) (last : Bool) → is_last k next ≡ last → is_free v ≡ false → InputIs k false next v log → InputIs k last (suc next) (if last then v else let_go v) log
past k next log Free last e f h = absurd cc
past k next log Held true e f h = ((λ o. absurd (false≢true (sym o))), λ o. (h.0 refl).1 ∙ e)
past k next log Held false e f h = ((h.0 refl).0, (h.0 refl).1 ∙ e)
past k next log Ended true e f h = h
past k next log Ended false e f h = h

-- all have ended
over_now : (k : AbstractTask) (next : ℕ) (log : List Message) (v : Shut) → is_free v ≡ false → (v ≡ Held → ⊥) → InputIs k false next v log → InputIs k true next v log
over_now k next log Free f n h = absurd cc
over_now k next log Held f n h = absurd (n refl)
over_now k next log Ended f n h = h

none_free : (ss : List Shut) (i : ℕ) → all_shut ss ≡ true → is_free (shut_at ss i) ≡ false
none_free ss i e = elim (cases_Bool (is_free (shut_at ss i))) [ inr f ↦ f | inl f ↦ absurd (false≢true (sym (shut_free ss i f) ∙ e)) ]

-- ---- all inputs

pub record Ins (k : AbstractTask) (es : List Event) (s : State) : Type 0 where
  pub long : length s.inputs.shut ≡ k.inputs
  pub over_is : s.over ≡ all_shut s.inputs.shut
  pub at : (i : ℕ) → i < k.inputs → InputIs k s.over s.next (shut_at s.inputs.shut i) (taken i es)

-- a task that can take is not over
pub not_over : (k : AbstractTask) (es : List Event) (s : State) (i : ℕ) → CanTake k s i → Ins k es s → s.over ≡ false
not_over k es s i c r = r.over_is ∙ shut_free s.inputs.shut i c.free

pub free_at : (k : AbstractTask) (es : List Event) (s : State) (i : ℕ) → CanTake k s i → Ins k es s → InputIs k false s.next Free (taken i es)
free_at k es s i c r = subst (λ o. InputIs k o s.next Free (taken i es)) (not_over k es s i c r) (subst (λ v. InputIs k s.over s.next v (taken i es)) (free_is (shut_at s.inputs.shut i) c.free) (r.at i c.input))

-- the inputs once one was shut
shut_now : (k : AbstractTask) (es : List Event) (s : State) (i : ℕ) (m : Message) (v : Shut) → CanTake k s i → Ins k es s → InputIs k false s.next v (m ∷ taken i es)
    → (x : ℕ) → x < k.inputs → InputIs k false s.next (shut_at (set s.inputs.shut i v) x) (taken x (Take i m ∷ es))
shut_now k es s i m v c r here x l =
    let e = get_or-set_same s.inputs.shut i v Ended (let n = r.long in let z = c.input in omega (arith, n, z)) in
    elim (cases_eq x i) [
      | inl u ↦ (let d = eq-eqb x i u in rw d (subst (λ y. InputIs k false s.next (shut_at (set s.inputs.shut i v) y) (m ∷ taken y es)) (sym u) (subst (λ w. InputIs k false s.next w (m ∷ taken i es)) (sym e) here)))
      | inr n ↦ (let d = ne_eqb x i n in rw d (subst (λ w. InputIs k false s.next w (taken x es)) (sym (get_or-set_other s.inputs.shut i x v Ended n)) (subst (λ o. InputIs k o s.next (shut_at s.inputs.shut x) (taken x es)) (not_over k es s i c r) (r.at x l))))
    ]

ins_quiet : (k : AbstractTask) (es : List Event) (s : State) (i : ℕ) (m : Message) (s' : State) → IsQuiet m → s'.inputs.shut ≡ s.inputs.shut → s'.over ≡ s.over → s'.next ≡ s.next → Ins k es s → Ins k (Take i m ∷ es) s'
ins_quiet k es s i m s' q se oe ne r = record {
  long = ap length se ∙ r.long;
  over_is = oe ∙ r.over_is ∙ ap all_shut (sym se);
  at = λ x l. subst (λ o. InputIs k o s'.next (shut_at s'.inputs.shut x) (taken x (Take i m ∷ es))) (sym oe)
      (subst (λ n. InputIs k s.over n (shut_at s'.inputs.shut x) (taken x (Take i m ∷ es))) (sym ne)
      (subst (λ ss. InputIs k s.over s.next (shut_at ss x) (taken x (Take i m ∷ es))) (sym se)
      (elim (cases_Bool (eqb x i)) [ inl e ↦ rw e (input_quiet k s.over s.next (shut_at s.inputs.shut x) m (taken x es) q (r.at x l)) | inr e ↦ rw e (r.at x l) ])));
}

ins_wait : (k : AbstractTask) (es : List Event) (s : State) (i : ℕ) (m : Message) (v : Shut) (marks : List Rattle.std.specs.Prelude.ℤ) → CanTake k s i → Ins k es s → InputIs k false s.next v (m ∷ taken i es) → alignment (set s.inputs.shut i v) ≡ aligned.Waiting
    → Ins k (Take i m ∷ es) (record s { inputs = record { marks = marks; shut = set s.inputs.shut i v } })
ins_wait k es s i m v marks c r here is = record {
  long = length-set s.inputs.shut i v ∙ r.long;
  over_is = not_over k es s i c r ∙ sym (waiting (all_shut (set s.inputs.shut i v)) (any_held (set s.inputs.shut i v)) is);
  at = λ x l. subst (λ o. InputIs k o s.next (shut_at (set s.inputs.shut i v) x) (taken x (Take i m ∷ es))) (sym (not_over k es s i c r)) (shut_now k es s i m v c r here x l);
}

past_all : (k : AbstractTask) (es : List Event) (s : State) (i : ℕ) (m : Message) (v : Shut) → CanTake k s i → Ins k es s → InputIs k false s.next v (m ∷ taken i es) → alignment (set s.inputs.shut i v) ≡ aligned.Barrier
    → (last : Bool) → is_last k s.next ≡ last → (s' : State) → s'.over ≡ last → s'.next ≡ suc s.next → s'.inputs.shut ≡ (if last then set s.inputs.shut i v else released (set s.inputs.shut i v)) → Ins k (Take i m ∷ es) s'
past_all k es s i m v c r here is last e s' oe ne se =
    let ss = set s.inputs.shut i v in
    let a = aligned_both (all_shut ss) (any_held ss) is in
    record {
      long = ap length se ∙ long_as last ss ∙ length-set s.inputs.shut i v ∙ r.long;
      over_is = oe ∙ over_as last ss a.0 a.1 ∙ ap all_shut (sym se);
      at = λ x l. subst (λ o. InputIs k o s'.next (shut_at s'.inputs.shut x) (taken x (Take i m ∷ es))) (sym oe)
          (subst (λ n. InputIs k last n (shut_at s'.inputs.shut x) (taken x (Take i m ∷ es))) (sym ne)
          (subst (λ w. InputIs k last (suc s.next) w (taken x (Take i m ∷ es))) (at_as last ss x ∙ ap (λ z. shut_at z x) (sym se))
          (past k s.next (taken x (Take i m ∷ es)) (shut_at ss x) last e (none_free ss x a.0) (shut_now k es s i m v c r here x l))));
    }
  where
    long_as : (b : Bool) (ss : List Shut) → length (if b then ss else released ss) ≡ length ss
    long_as true ss = refl
    long_as false ss = length-map ss let_go

    over_as : (b : Bool) (ss : List Shut) → all_shut ss ≡ true → any_held ss ≡ true → b ≡ all_shut (if b then ss else released ss)
    over_as true ss a h = sym a
    over_as false ss a h = sym (released_free ss h)

    at_as : (b : Bool) (ss : List Shut) (x : ℕ) → (if b then shut_at ss x else let_go (shut_at ss x)) ≡ shut_at (if b then ss else released ss) x
    at_as true ss x = refl
    at_as false ss x = sym (released_at ss x)

-- where an input is held, a barrier is left
pub held_left : (k : AbstractTask) (es : List Event) (s : State) (i : ℕ) → CanTake k s i → Ins k es s → any_held (set s.inputs.shut i Ended) ≡ true → s.next < barriers k
held_left k es s i c r h =
    let x = some_held (set s.inputs.shut i Ended) h in
    let long = length-set s.inputs.shut i Ended in
    let il : x.0 < k.inputs = let n = r.long in let l = x.1 in omega (arith, n, l, long) in
    let a = shut_now k es s i End Ended c r refl x.0 il in
    ((subst (λ w. InputIs k false s.next w (taken x.0 (Take i End ∷ es))) x.2 a).0 refl).2

ins_step : (p : PlanData) (k : AbstractTask) (es : List Event) (s : State) (e : Event) (s' : State) → is_source k.role ≡ false → LocalStep p k s e s' → Ins k es s → Ins k (e ∷ es) s'
ins_step p k es s e s' ns (put is) r = record { long = r.long; over_is = r.over_is; at = r.at }
ins_step p k es s e s' ns (opens can) r = absurd (let a = ap is_source can.source in cc)
ins_step p k es s e s' ns (reads own) r = absurd (let a = ap is_source own.can.can.source in cc)
ins_step p k es s e s' ns (saves can may) r = absurd (let a = ap is_source can.source in cc)
ins_step p k es s e s' ns (stops can may) r = absurd (let a = ap is_source can.source in cc)
ins_step p k es s e s' ns (closes can may) r = absurd (let a = ap is_source can.source in cc)
ins_step p k es s e s' ns (chain_rows {i = i} {t = t} role takes) r = ins_quiet k es s i (Rows t) s' tt refl refl refl r
ins_step p k es s e s' ns (chain_mark {i = i} {t = t} role takes) r = ins_quiet k es s i (Watermark t) s' tt refl refl refl r
ins_step p k es s e s' ns (window_rows {i = i} {t = t} role takes added) r = ins_quiet k es s i (Rows t) s' tt refl refl refl r
ins_step p k es s e s' ns (window_mark {i = i} {t = t} rows role takes fires) r = ins_quiet k es s i (Watermark t) s' tt refl refl refl r
ins_step p k es s e s' ns (sink_rows {i = i} {rows = rows} role takes) r = ins_quiet k es s i (Fired rows) s' tt refl refl refl r
ins_step p k es s e s' ns (sink_mark {i = i} {t = t} role takes) r = ins_quiet k es s i (Watermark t) s' tt refl refl refl r
ins_step p k es s e s' ns (holds {i = i} {n = n} takes is) r =
    ins_wait k es s i (Barrier n) Held s.inputs.marks takes.can r (took_barrier k s.next n (taken i es) takes.admitted.0 takes.admitted.1 (free_at k es s i takes.can r)) is
ins_step p k es s e s' ns (aligns {i = i} {n = n} takes is) r =
    past_all k es s i (Barrier n) Held takes.can r (took_barrier k s.next n (taken i es) takes.admitted.0 takes.admitted.1 (free_at k es s i takes.can r)) is (is_last k s.next) refl s' refl refl refl
ins_step p k es s e s' ns (ends {i = i} takes is) r = ins_wait k es s i End Ended s.inputs.marks takes.can r refl is
ins_step p k es s e s' ns (ends_all {i = i} takes is) r =
    let ss = set s.inputs.shut i Ended in
    let a = ended_both (all_shut ss) (any_held ss) is in
    record {
      long = length-set s.inputs.shut i Ended ∙ r.long;
      over_is = sym a.0;
      at = λ x l. over_now k s.next (taken x (Take i End ∷ es)) (shut_at ss x) (none_free ss x a.0) (λ z. false≢true (sym a.1 ∙ held_any ss x z)) (shut_now k es s i End Ended takes.can r refl x l);
    }
ins_step p k es s e s' ns (ends_aligned {i = i} takes is) r = past_all k es s i End Ended takes.can r refl is (is_last k s.next) refl s' refl refl refl

ins_fresh : (k : AbstractTask) (s : State) → 0 < k.inputs → IsFresh k s → Ins k [] s
ins_fresh k s some f = record {
  long = ap length f.shut ∙ length-replicate k.inputs Free;
  over_is = f.over ∙ sym (ap all_shut f.shut ∙ all_free k.inputs some);
  at = λ i l. subst (λ w. InputIs k s.over s.next w []) (sym (ap (λ z. shut_at z i) f.shut ∙ get_free k.inputs i l)) (sym f.next, refl);
}

pub ins : (p : PlanData) (k : AbstractTask) (start : State) → is_source k.role ≡ false → 0 < k.inputs → IsFresh k start → {es : List Event} {s : State} → Run p k start es s → Ins k es s
ins p k start ns some f none = ins_fresh k start some f
ins p k start ns some f (more {es = es} {s = s} {e = e} {s' = s'} run st) = ins_step p k es s e s' ns st (ins p k start ns some f run)
