-- In a complete history each ring has given all that it got.
use Rattle.std.proofs.Common.{◌≡◌, ℕ, suc, ◌+◌, ◌<◌, List, [], ◌∷◌, ◌++◌, Bool, true, false, cond, eqb, ◌&&◌, length, get_or, set, replicate, refl, sym, ap, subst, ◌∙◌, ◌⊎◌, inl, inr, arith, length-set, get_or-set_same, get_or-set_other, ℤ, Option, Some, None, if◌then◌else◌}
use Rattle.std.proofs.lemmas.List.{length-replicate, length-map}
use Rattle.std.proofs.lemmas.Bool.{cases_eq, cases_Bool, eq-eqb, ne_eqb, false≢true}
use Rattle.std.specs.List.{filter}
use Rattle.plan_model.specs.declared.spec.Row.{Row}
use Rattle.plan_model.specs.PlanData.{PlanData}
use Rattle.input_state.specs.declared.inputs.Shut.{Shut}
use Rattle.input_state.specs.declared.inputs.Shut.TheVariants.{Free, Held, Ended}
use Rattle.input_state.specs.declared.inputs.Aligned.TheVariants as aligned
use Rattle.plain_data.specs.Times.{lowest}
use Rattle.input_state.specs.Inputs.{inputs_from, least, risen, rise, is_free, shut_at, all_shut, any_held, alignment, let_go, released}
use Rattle.dataflow_model.specs.declared.message.Message.{Message}
use Rattle.dataflow_model.specs.declared.message.Message.TheVariants.{Rows, Fired, Watermark, Barrier, End}
use Rattle.dataflow_model.specs.declared.role.Role.TheVariants.{Source}
use Rattle.dataflow_model.specs.declared.ending.Ending.{Ending}
use Rattle.dataflow_model.specs.declared.ending.Ending.TheVariants.{AtEnd, AtCut, Asked}
use Rattle.dataflow_model.specs.Ending.{may_stop}
use Rattle.dataflow_model.specs.Message.{records_of}
use Rattle.dataflow_model.specs.Role.{is_source}
use Rattle.dataflow_model.specs.AbstractTask.{AbstractTask}
use Rattle.dataflow_model.specs.State.{State, Kept}
use Rattle.dataflow_model.specs.Routes.{spread, batch, part, route_of, to_all, announce, fired}
use Rattle.dataflow_model.specs.Steps.{Event, Open, Read, Save, Stop, Close, Take, Put, LocalStep, barriers, is_last, past_barrier, MayStop, MayClose}
use Rattle.dataflow_model.specs.Steps.LocalStep.{put, opens, reads, saves, stops, closes, chain_rows, chain_mark, window_rows, window_mark, sink_rows, sink_mark, holds, aligns, ends, ends_all, ends_aligned}
use Rattle.dataflow_model.specs.Runs.{Run, taken, sent, only, onto, given}
use Rattle.dataflow_model.specs.Runs.Run.{none, more}
use Rattle.dataflow_laws.proofs.Streams.{told}
use Rattle.dataflow_laws.proofs.Logs.{only_announce, onto_append}
use Rattle.dataflow_laws.proofs.Reader.{width_of, only_route_of}
use Rattle.dataflow_laws.proofs.Aligning.{last_of}
use Rattle.dataflow_model.proofs.Facts.{given_put, given_spread, only_append, free_is, get_free, no_source, released_at, all_shut_at, none_held_at, all_ended_by, stops_last, last_is}

-- ---- the last message of a leg

-- barrier n, or an end
abbrev pub is_final : ℕ → Message → Bool
is_final n (Rows t) = false
is_final n (Fired rows) = false
is_final n (Watermark t) = false
is_final n (Barrier m) = eqb m n
is_final n End = true

abbrev pub ended : ℕ → List Message → Bool
ended n [] = false
ended n (m ∷ log) = cond (is_final n m) true (ended n log)

-- a log whose newest message is the last one, and no other is
pub record Closed (n : ℕ) (log : List Message) : Type 0 where
  pub last : Message
  pub before : List Message
  pub is : log ≡ last ∷ before
  pub is_end : is_final n last ≡ true
  pub first : ended n before ≡ false

pub ended_batch : (n width : ℕ) (xs : List (List ℤ)) (log : List Message) → ended n (onto (batch width xs) log) ≡ ended n log
ended_batch n width [] log = refl
ended_batch n width (x ∷ xs) log = refl

pub ended_told : (n : ℕ) (o : Option ℤ) (log : List Message) → ended n (onto (told o) log) ≡ ended n log
ended_told n None log = refl
ended_told n (Some t) log = refl

pub ended_fired : (n j : ℕ) (rows : List Row) (log : List Message) → ended n (onto (only j (fired rows)) log) ≡ ended n log
ended_fired n j [] log = refl
ended_fired n j (r ∷ rows) log = elim (cases_Bool (eqb j 0)) [ inl e ↦ rw e refl | inr e ↦ rw e refl ]

ended_taken : (n x i : ℕ) (m : Message) (log : List Message) → is_final n m ≡ false → ended n (cond (eqb x i) (m ∷ log) log) ≡ ended n log
ended_taken n x i m log e = elim (cases_Bool (eqb x i)) [ inl d ↦ rw d (rw e refl) | inr d ↦ rw d refl ]

-- what was taken stays ended
ended_more : (n x i : ℕ) (m : Message) (log : List Message) → ended n log ≡ true → ended n (cond (eqb x i) (m ∷ log) log) ≡ true
ended_more n x i m log e = elim (cases_Bool (eqb x i)) [ inl d ↦ rw d (elim (cases_Bool (is_final n m)) [ inl f ↦ rw f refl | inr f ↦ rw f e ]) | inr d ↦ rw d e ]

ended_now : (n x i : ℕ) (m : Message) (log : List Message) → x ≡ i → is_final n m ≡ true → ended n (cond (eqb x i) (m ∷ log) log) ≡ true
ended_now n x i m log q e = let d = eq-eqb x i q in rw d (rw e refl)

-- ---- inputs that are shut

pub shut_cases : (x : Shut) → ((x ≡ Free) ⊎ (x ≡ Held)) ⊎ (x ≡ Ended)
shut_cases Free = inl (inl refl)
shut_cases Held = inl (inr refl)
shut_cases Ended = inr refl

pub held_somewhere : (ss : List Shut) → any_held ss ≡ true → (i : ℕ) × (i < length ss) × (shut_at ss i ≡ Held)
held_somewhere [] a = absurd cc
held_somewhere (Free ∷ ss) a = let r = held_somewhere ss a in (suc r.0, omega (arith, r.1), r.2)
held_somewhere (Held ∷ ss) a = (0, omega arith, refl)
held_somewhere (Ended ∷ ss) a = let r = held_somewhere ss a in (suc r.0, omega (arith, r.1), r.2)

let_go_held : (x : Shut) → let_go x ≡ Held → ⊥
let_go_held Free e = absurd cc
let_go_held Held e = absurd cc
let_go_held Ended e = absurd cc

pub let_go_ended : (x : Shut) → let_go x ≡ Ended → x ≡ Ended
let_go_ended Free e = absurd cc
let_go_ended Held e = absurd cc
let_go_ended Ended e = refl

-- all have the barrier, or all have ended
pub aligned_by : (a h : Bool) → (if a then (if h then aligned.Barrier else aligned.AllEnded) else aligned.Waiting) ≡ aligned.Barrier → (a ≡ true) × (h ≡ true)
aligned_by true true e = (refl, refl)
aligned_by true false e = absurd cc
aligned_by false h e = absurd cc

-- ---- barriers

pub not_last : (k : AbstractTask) (n : ℕ) → n < barriers k → is_last k n ≡ false → n ≡ k.saves → ⊥
not_last k n l e q =
    elim (cases_Bool (may_stop k.ending)) [
      | inl m ↦ (let d = eq-eqb n k.saves q in false≢true (sym e ∙ ap (λ t. t && eqb n k.saves) m ∙ d))
      | inr m ↦ (let b : barriers k ≡ k.saves + 0 = ap (λ t. k.saves + (if t then 1 else 0)) m in omega arith)
    ]

final_barrier : (k : AbstractTask) (n : ℕ) → n ≡ k.saves → is_final (last_of k) (Barrier (k.first + n)) ≡ true
final_barrier k n e = eq-eqb (k.first + n) (k.first + k.saves) (ap (λ x. k.first + x) e)

other_barrier : (k : AbstractTask) (n : ℕ) → (n ≡ k.saves → ⊥) → is_final (last_of k) (Barrier (k.first + n)) ≡ false
other_barrier k n ne = ne_eqb (k.first + n) (k.first + k.saves) (λ e. ne (omega (arith, e)))

-- ---- a task's logs up to the last message

-- what is known of the end of a task's logs after its steps
pub record HasEnds (k : AbstractTask) (es : List Event) (s : State) : Type 0 where
  pub shut_length : is_source k.role ≡ false → length s.inputs.shut ≡ k.inputs
  pub over_shut : is_source k.role ≡ false → s.over ≡ true → all_shut s.inputs.shut ≡ true
  -- where the barrier that holds an input is that of a stop, it was the last one there
  pub held : is_source k.role ≡ false → s.over ≡ false → (i : ℕ) → i < k.inputs → shut_at s.inputs.shut i ≡ Held → (s.next < barriers k) × (s.next ≡ k.saves → ended (last_of k) (taken i es) ≡ true)
  pub shut : is_source k.role ≡ false → (i : ℕ) → i < k.inputs → shut_at s.inputs.shut i ≡ Ended → ended (last_of k) (taken i es) ≡ true
  pub over_taken : is_source k.role ≡ false → s.over ≡ true → (i : ℕ) → i < k.inputs → ended (last_of k) (taken i es) ≡ true
  pub going : s.over ≡ false → (j : ℕ) → j < k.outputs → ended (last_of k) (given j es s) ≡ false
  pub closed : s.over ≡ true → (j : ℕ) → j < k.outputs → Closed (last_of k) (given j es s)
  pub source : k.role ≡ Source → s.over ≡ true → (s.opened ≡ true) × ((k.ending ≡ Asked → ⊥) → (q : ℕ) → q < k.inputs → get_or s.offsets q 0 ≡ k.limit k.saves q)

-- a task that takes is not over
pub not_over : (k : AbstractTask) (es : List Event) (s : State) (i : ℕ) → is_source k.role ≡ false → is_free (shut_at s.inputs.shut i) ≡ true → HasEnds k es s → s.over ≡ false
not_over k es s i ns f r =
    elim (cases_Bool s.over) [
      | inr e ↦ e
      | inl e ↦ absurd (all_shut_at s.inputs.shut i (r.over_shut ns e) (free_is (shut_at s.inputs.shut i) f))
    ]

-- a step that gives and takes no last message, of a task that is not over
ends_same : (k : AbstractTask) (es : List Event) (s : State) (e : Event) (s' : State) → s.over ≡ false → s'.over ≡ s.over → s'.inputs.shut ≡ s.inputs.shut → s'.next ≡ s.next
    → ((i : ℕ) → ended (last_of k) (taken i (e ∷ es)) ≡ ended (last_of k) (taken i es)) → ((j : ℕ) → j < k.outputs → ended (last_of k) (given j (e ∷ es) s') ≡ ended (last_of k) (given j es s)) → HasEnds k es s → HasEnds k (e ∷ es) s'
ends_same k es s e s' ov oe se ne te ge r =
    record {
      shut_length = λ ns. ap length se ∙ r.shut_length ns;
      over_shut = λ ns o. absurd (false≢true (sym (oe ∙ ov) ∙ o));
      held = λ ns o i l h. let a = r.held ns ov i l (ap (λ x. shut_at x i) (sym se) ∙ h) in (subst (λ n. n < barriers k) (sym ne) a.0, λ q. te i ∙ a.1 (sym ne ∙ q));
      shut = λ ns i l h. te i ∙ r.shut ns i l (ap (λ x. shut_at x i) (sym se) ∙ h);
      over_taken = λ ns o. absurd (false≢true (sym (oe ∙ ov) ∙ o));
      going = λ o j l. ge j l ∙ r.going ov j l;
      closed = λ o j l. absurd (false≢true (sym (oe ∙ ov) ∙ o));
      source = λ a o. absurd (false≢true (sym (oe ∙ ov) ∙ o));
    }

-- an input that is shut by the message that comes on it
pub record IsShutBy (k : AbstractTask) (es : List Event) (s : State) (i : ℕ) (m : Message) (shut : List Shut) : Type 0 where
  pub long : length shut ≡ k.inputs
  pub held : (x : ℕ) → x < k.inputs → shut_at shut x ≡ Held → (s.next < barriers k) × (s.next ≡ k.saves → ended (last_of k) (taken x (Take i m ∷ es)) ≡ true)
  pub ends : (x : ℕ) → x < k.inputs → shut_at shut x ≡ Ended → ended (last_of k) (taken x (Take i m ∷ es)) ≡ true

shut_by_barrier : (k : AbstractTask) (es : List Event) (s : State) (i n : ℕ) → is_source k.role ≡ false → s.over ≡ false → i < k.inputs → n ≡ k.first + s.next → s.next < barriers k → HasEnds k es s → IsShutBy k es s i (Barrier n) (set s.inputs.shut i Held)
shut_by_barrier k es s i n ns ov l en few r =
    let old : List Shut = s.inputs.shut in
    let il : i < length old = (let q = r.shut_length ns in omega arith) in
    record {
      long = length-set old i Held ∙ r.shut_length ns;
      held = λ x xl h. elim (cases_eq x i) [
        | inl e ↦ (few, λ q. ended_now (last_of k) x i (Barrier n) (taken x es) e (ap (λ y. is_final (last_of k) (Barrier y)) en ∙ final_barrier k s.next q))
        | inr ne ↦ (let a = r.held ns ov x xl (sym (get_or-set_other old i x Held Ended ne) ∙ h) in (few, λ q. ended_more (last_of k) x i (Barrier n) (taken x es) (a.1 q)))
      ];
      ends = λ x xl h. elim (cases_eq x i) [
        | inl e ↦ absurd (let y : Held ≡ Ended = sym (get_or-set_same old i Held Ended il) ∙ ap (shut_at (set old i Held)) (sym e) ∙ h in cc)
        | inr ne ↦ ended_more (last_of k) x i (Barrier n) (taken x es) (r.shut ns x xl (sym (get_or-set_other old i x Held Ended ne) ∙ h))
      ];
    }

pub shut_by_end : (k : AbstractTask) (es : List Event) (s : State) (i : ℕ) → is_source k.role ≡ false → s.over ≡ false → i < k.inputs → HasEnds k es s → IsShutBy k es s i End (set s.inputs.shut i Ended)
shut_by_end k es s i ns ov l r =
    let old : List Shut = s.inputs.shut in
    let il : i < length old = (let q = r.shut_length ns in omega arith) in
    record {
      long = length-set old i Ended ∙ r.shut_length ns;
      held = λ x xl h. elim (cases_eq x i) [
        | inl e ↦ absurd (let y : Ended ≡ Held = sym (get_or-set_same old i Ended Ended il) ∙ ap (shut_at (set old i Ended)) (sym e) ∙ h in cc)
        | inr ne ↦ (let a = r.held ns ov x xl (sym (get_or-set_other old i x Ended Ended ne) ∙ h) in (a.0, λ q. ended_more (last_of k) x i End (taken x es) (a.1 q)))
      ];
      ends = λ x xl h. elim (cases_eq x i) [
        | inl e ↦ ended_now (last_of k) x i End (taken x es) e refl
        | inr ne ↦ ended_more (last_of k) x i End (taken x es) (r.shut ns x xl (sym (get_or-set_other old i x Ended Ended ne) ∙ h))
      ];
    }

-- a barrier or an end, where other inputs wait
ends_wait : (k : AbstractTask) (es : List Event) (s : State) (i : ℕ) (m : Message) (shut : List Shut) → is_source k.role ≡ false → s.over ≡ false → IsShutBy k es s i m shut → HasEnds k es s → HasEnds k (Take i m ∷ es) (record s { inputs = inputs_from s.inputs.marks shut })
ends_wait k es s i m shut ns ov by r =
    record {
      shut_length = λ n. by.long;
      over_shut = λ n o. absurd (false≢true (sym ov ∙ o));
      held = λ n o x l h. by.held x l h;
      shut = λ n x l h. by.ends x l h;
      over_taken = λ n o. absurd (false≢true (sym ov ∙ o));
      going = λ o j l. r.going ov j l;
      closed = λ o. absurd (false≢true (sym ov ∙ o));
      source = λ a o. absurd (false≢true (sym ov ∙ o));
    }

-- the last input has the barrier
ends_past : (k : AbstractTask) (es : List Event) (s : State) (i : ℕ) (m : Message) (shut : List Shut) → is_source k.role ≡ false → s.over ≡ false → s.pending ≡ [] → IsShutBy k es s i m shut → alignment shut ≡ aligned.Barrier → HasEnds k es s → HasEnds k (Take i m ∷ es) (past_barrier k s shut)
ends_past k es s i m shut ns ov idle by al r =
    let both = aligned_by (all_shut shut) (any_held shut) al in
    let one = held_somewhere shut both.1 in
    let few : s.next < barriers k = (by.held one.0 (let q = by.long in omega (arith, one.1)) one.2).0 in
    let last = is_last k s.next in
    let new : State = past_barrier k s shut in
    let put : Message = Barrier (k.first + s.next) in
    let same : (j : ℕ) → j < k.outputs → given j (Take i m ∷ es) new ≡ put ∷ given j es s = λ j q. given_spread k.outputs (λ j. put ∷ []) j (sent j es) s.pending idle q in
    elim (cases_Bool last) [
      | inl e ↦
          (let here = last_is k s.next e in
          let shut_is : new.inputs.shut ≡ shut = ap (λ t. if t then shut else released shut) e in
          let all : (x : ℕ) → x < k.inputs → ended (last_of k) (taken x (Take i m ∷ es)) ≡ true = λ x l. elim (shut_cases (shut_at shut x)) [
            | inl c ↦ elim c [ inl f ↦ absurd (all_shut_at shut x both.0 f) | inr h ↦ (by.held x l h).1 here ]
            | inr d ↦ by.ends x l d
          ] in
          record {
            shut_length = λ n. ap length shut_is ∙ by.long;
            over_shut = λ n o. ap all_shut shut_is ∙ both.0;
            held = λ n o. absurd (false≢true (sym o ∙ e));
            shut = λ n x l h. all x l;
            over_taken = λ n o. all;
            going = λ o. absurd (false≢true (sym o ∙ e));
            closed = λ o j l. record { last = put; before = given j es s; is = same j l; is_end = final_barrier k s.next here; first = r.going ov j l };
            source = λ a o. absurd (no_source k ns a);
          })
      | inr e ↦
          (let shut_is : new.inputs.shut ≡ released shut = ap (λ t. if t then shut else released shut) e in
          record {
            shut_length = λ n. ap length shut_is ∙ length-map shut let_go ∙ by.long;
            over_shut = λ n o. absurd (false≢true (sym e ∙ o));
            held = λ n o x l h. absurd (let_go_held (shut_at shut x) (sym (released_at shut x) ∙ ap (λ y. shut_at y x) (sym shut_is) ∙ h));
            shut = λ n x l h. by.ends x l (let_go_ended (shut_at shut x) (sym (released_at shut x) ∙ ap (λ y. shut_at y x) (sym shut_is) ∙ h));
            over_taken = λ n o. absurd (false≢true (sym e ∙ o));
            going = λ o j l. ap (ended (last_of k)) (same j l) ∙ (let z = other_barrier k s.next (not_last k s.next few e) in ap (λ t. cond t true (ended (last_of k) (given j es s))) z ∙ r.going ov j l);
            closed = λ o. absurd (false≢true (sym e ∙ o));
            source = λ a o. absurd (no_source k ns a);
          })
    ]

-- the last input ends, as all others have
ends_over : (k : AbstractTask) (es : List Event) (s : State) (i : ℕ) (m : Message) (shut : List Shut) → is_source k.role ≡ false → s.over ≡ false → s.pending ≡ [] → IsShutBy k es s i m shut → alignment shut ≡ aligned.AllEnded → HasEnds k es s
    → HasEnds k (Take i m ∷ es) (record s { inputs = inputs_from s.inputs.marks shut; over = true; pending = to_all k.outputs End })
ends_over k es s i m shut ns ov idle by al r =
    let both = all_ended_by (all_shut shut) (any_held shut) al in
    let new : State = record s { inputs = inputs_from s.inputs.marks shut; over = true; pending = to_all k.outputs End } in
    let same : (j : ℕ) → j < k.outputs → given j (Take i m ∷ es) new ≡ End ∷ given j es s = λ j q. given_spread k.outputs (λ j. End ∷ []) j (sent j es) s.pending idle q in
    let all : (x : ℕ) → x < k.inputs → ended (last_of k) (taken x (Take i m ∷ es)) ≡ true = λ x l. elim (shut_cases (shut_at shut x)) [
      | inl c ↦ elim c [ inl f ↦ absurd (all_shut_at shut x both.0 f) | inr h ↦ absurd (none_held_at shut x both.1 h) ]
      | inr d ↦ by.ends x l d
    ] in
    record {
      shut_length = λ n. by.long;
      over_shut = λ n o. both.0;
      held = λ n o. absurd (false≢true (sym o));
      shut = λ n x l h. all x l;
      over_taken = λ n o. all;
      going = λ o. absurd (false≢true (sym o));
      closed = λ o j l. record { last = End; before = given j es s; is = same j l; is_end = refl; first = r.going ov j l };
      source = λ a o. absurd (no_source k ns a);
    }

-- a source that stops or closes
ends_source : (k : AbstractTask) (es : List Event) (s : State) (e : Event) (next : ℕ) (m : Message) → k.role ≡ Source → ((j : ℕ) → sent j (e ∷ es) ≡ sent j es) → s.pending ≡ [] → s.opened ≡ true → s.over ≡ false → ((k.ending ≡ Asked → ⊥) → (q : ℕ) → q < k.inputs → get_or s.offsets q 0 ≡ k.limit k.saves q) → is_final (last_of k) m ≡ true → HasEnds k es s
    → HasEnds k (e ∷ es) (record s { over = true; next = next; pending = to_all k.outputs m })
ends_source k es s e next m a un idle op ov at il r =
    let new : State = record s { over = true; next = next; pending = to_all k.outputs m } in
    let same : (j : ℕ) → j < k.outputs → given j (e ∷ es) new ≡ m ∷ given j es s = λ j q. ap (onto (only j (to_all k.outputs m))) (un j) ∙ given_spread k.outputs (λ j. m ∷ []) j (sent j es) s.pending idle q in
    record {
      shut_length = λ n. absurd (no_source k n a);
      over_shut = λ n. absurd (no_source k n a);
      held = λ n. absurd (no_source k n a);
      shut = λ n. absurd (no_source k n a);
      over_taken = λ n. absurd (no_source k n a);
      going = λ o. absurd (false≢true (sym o));
      closed = λ o j q. record { last = m; before = given j es s; is = same j q; is_end = il; first = r.going ov j q };
      source = λ a o. (op, at);
    }

-- a source that takes a savepoint and goes on
ends_save : (k : AbstractTask) (es : List Event) (s : State) (keep : List Kept) → k.role ≡ Source → s.pending ≡ [] → s.over ≡ false → s.next < k.saves → HasEnds k es s
    → HasEnds k (Save ∷ es) (record s { next = suc s.next; kept = keep; pending = to_all k.outputs (Barrier (k.first + s.next)) })
ends_save k es s keep a idle ov few r =
    let put : Message = Barrier (k.first + s.next) in
    let new : State = record s { next = suc s.next; kept = keep; pending = to_all k.outputs (Barrier (k.first + s.next)) } in
    let same : (j : ℕ) → j < k.outputs → given j (Save ∷ es) new ≡ put ∷ given j es s = λ j q. given_spread k.outputs (λ j. put ∷ []) j (sent j es) s.pending idle q in
    record {
      shut_length = λ n. absurd (no_source k n a);
      over_shut = λ n. absurd (no_source k n a);
      held = λ n. absurd (no_source k n a);
      shut = λ n. absurd (no_source k n a);
      over_taken = λ n. absurd (no_source k n a);
      going = λ o j l. ap (ended (last_of k)) (same j l) ∙ (let z = other_barrier k s.next (λ q. absurd (omega arith)) in ap (λ t. cond t true (ended (last_of k) (given j es s))) z ∙ r.going ov j l);
      closed = λ o. absurd (false≢true (sym ov ∙ o));
      source = λ a o. absurd (false≢true (sym ov ∙ o));
    }

-- where a leg stops or closes, all is read but where a stop is asked for
stops_at : (ending : Ending) (k : AbstractTask) (s : State) → MayStop ending k s → (ending ≡ Asked → ⊥) → (q : ℕ) → q < k.inputs → get_or s.offsets q 0 ≡ k.limit k.saves q
stops_at AtEnd k s may ask q l = absurd may
stops_at AtCut k s may ask q l = may.1 q l ∙ ap (λ n. k.limit n q) may.0
stops_at Asked k s may ask q l = absurd (ask refl)

pub closes_at : (ending : Ending) (k : AbstractTask) (s : State) → MayClose ending k s → (q : ℕ) → q < k.inputs → get_or s.offsets q 0 ≡ k.limit k.saves q
closes_at AtEnd k s may q l = may.1 q l ∙ ap (λ n. k.limit n q) may.0
closes_at AtCut k s may q l = absurd may
closes_at Asked k s may q l = may.1 q l ∙ ap (λ n. k.limit n q) may.0

-- ---- steps

-- what is given, after f is pended
pub given_ended : (n : ℕ) (k : AbstractTask) (f : ℕ → List Message) (log : ℕ → List Message) (p : List (ℕ × Message)) → p ≡ [] → ((j : ℕ) (x : List Message) → ended n (onto (f j) x) ≡ ended n x) → (j : ℕ) → j < k.outputs → ended n (onto (only j (spread k.outputs f)) (log j)) ≡ ended n (onto (only j p) (log j))
given_ended n k f log p e h j q = ap (ended n) (given_spread k.outputs f j (log j) p e q) ∙ h j (onto (only j p) (log j))

-- what is given, after a watermark is told
pub told_ended : (n : ℕ) (k : AbstractTask) (o : Option ℤ) (log : List Message) (p : List (ℕ × Message)) (j : ℕ) → p ≡ [] → j < k.outputs → ended n (onto (only j (announce k.outputs o)) log) ≡ ended n (onto (only j p) log)
told_ended n k o log p j e l = ap (λ x. ended n (onto x log)) (only_announce k.outputs o j l) ∙ ended_told n o log ∙ ap (λ q. ended n (onto (only j q) log)) (sym e)

-- what is given, after other messages and a watermark
pub both_ended : (n : ℕ) (k : AbstractTask) (out : List (ℕ × Message)) (o : Option ℤ) (log : List Message) (p : List (ℕ × Message)) (j : ℕ) → p ≡ [] → j < k.outputs → ended n (onto (only j out) log) ≡ ended n log → ended n (onto (only j (out ++ announce k.outputs o)) log) ≡ ended n (onto (only j p) log)
both_ended n k out o log p j e l h =
    ap (λ x. ended n (onto x log)) (only_append j out (announce k.outputs o)) ∙ ap (ended n) (onto_append (only j out) (only j (announce k.outputs o)) log)
    ∙ ap (λ x. ended n (onto x (onto (only j out) log))) (only_announce k.outputs o j l) ∙ ended_told n o (onto (only j out) log) ∙ h ∙ ap (λ q. ended n (onto (only j q) log)) (sym e)

ends_step : (p : PlanData) (k : AbstractTask) (es : List Event) (s : State) (e : Event) (s' : State) → LocalStep p k s e s' → HasEnds k es s → HasEnds k (e ∷ es) s'
ends_step p k es s e s' (put {j = i} {m = m} {rest = rest} is) r =
    let same : (j : ℕ) → given j (Put i m ∷ es) (record s { pending = rest }) ≡ given j es s = λ j. given_put j i m rest (sent j es) ∙ ap (λ p. onto (only j p) (sent j es)) (sym is) in
    record {
      shut_length = r.shut_length;
      over_shut = r.over_shut;
      held = r.held;
      shut = r.shut;
      over_taken = r.over_taken;
      going = λ o j q. ap (ended (last_of k)) (same j) ∙ r.going o j q;
      closed = λ o j q. subst (Closed (last_of k)) (sym (same j)) (r.closed o j q);
      source = r.source;
    }
ends_step p k es s e s' (opens can) r =
    let ov : s.over ≡ false = elim (cases_Bool s.over) [ inr x ↦ x | inl x ↦ absurd (false≢true (sym can.shut ∙ (r.source can.source x).0)) ] in
    ends_same k es s Open s' ov refl refl refl (λ i. refl) (λ j l. told_ended (last_of k) k (risen lowest (least s.inputs.marks)) (sent j es) s.pending j can.idle l) r
ends_step p k es s e s' (reads {n = n} {q = q} own) r =
    let m : Message = k.entry q (get_or s.offsets q 0) in
    ends_same k es s (Read n) s' own.can.can.going refl refl refl (λ i. refl)
    (λ j l. both_ended (last_of k) k (route_of p.window.key k s.cursor m) (rise s.inputs.marks q (k.brings q (get_or s.offsets q 0))) (sent j es) s.pending j own.can.can.idle l
    (ap (ended (last_of k)) (only_route_of p.window.key k s.cursor m j (sent j es) l) ∙ ended_batch (last_of k) (width_of m) (part p.window.key k.routing s.cursor (filter k.keeps (records_of m)) j) (sent j es))) r
ends_step p k es s e s' (saves can may) r = ends_save k es s _ can.source can.idle can.going may.0 r
ends_step p k es s e s' (stops can may) r = ends_source k es s Stop _ (Barrier (k.first + s.next)) can.source (λ j. refl) can.idle can.opened can.going (stops_at k.ending k s may) (final_barrier k s.next (stops_last k.ending k s may)) r
ends_step p k es s e s' (closes can may) r = ends_source k es s Close _ End can.source (λ j. refl) can.idle can.opened can.going (λ ask. closes_at k.ending k s may) refl r
ends_step p k es s e s' (chain_rows {i = i} {t = t} a takes) r =
    ends_same k es s (Take i (Rows t)) s' (not_over k es s i takes.can.taker takes.can.free r) refl refl refl (λ x. ended_taken (last_of k) x i (Rows t) (taken x es) refl)
    (given_ended (last_of k) k (λ j. batch t.width (part p.window.key k.routing s.cursor (filter k.keeps t.rows) j)) (λ j. sent j es) s.pending takes.can.idle (λ j x. ended_batch (last_of k) t.width (part p.window.key k.routing s.cursor (filter k.keeps t.rows) j) x)) r
ends_step p k es s e s' (chain_mark {i = i} {t = t} a takes) r =
    ends_same k es s (Take i (Watermark t)) s' (not_over k es s i takes.can.taker takes.can.free r) refl refl refl (λ x. ended_taken (last_of k) x i (Watermark t) (taken x es) refl)
    (λ j l. told_ended (last_of k) k (rise s.inputs.marks i t) (sent j es) s.pending j takes.can.idle l) r
ends_step p k es s e s' (window_rows {i = i} {t = t} a takes added) r =
    ends_same k es s (Take i (Rows t)) s' (not_over k es s i takes.can.taker takes.can.free r) refl refl refl (λ x. ended_taken (last_of k) x i (Rows t) (taken x es) refl) (λ j l. refl) r
ends_step p k es s e s' (window_mark {i = i} {t = t} rows a takes fires) r =
    ends_same k es s (Take i (Watermark t)) s' (not_over k es s i takes.can.taker takes.can.free r) refl refl refl (λ x. ended_taken (last_of k) x i (Watermark t) (taken x es) refl)
    (λ j l. both_ended (last_of k) k (fired rows) (rise s.inputs.marks i t) (sent j es) s.pending j takes.can.idle l (ended_fired (last_of k) j rows (sent j es))) r
ends_step p k es s e s' (sink_rows {i = i} {rows = rows} a takes) r =
    ends_same k es s (Take i (Fired rows)) s' (not_over k es s i takes.can.taker takes.can.free r) refl refl refl (λ x. ended_taken (last_of k) x i (Fired rows) (taken x es) refl) (λ j l. refl) r
ends_step p k es s e s' (sink_mark {i = i} {t = t} a takes) r =
    ends_same k es s (Take i (Watermark t)) s' (not_over k es s i takes.can.taker takes.can.free r) refl refl refl (λ x. ended_taken (last_of k) x i (Watermark t) (taken x es) refl) (λ j l. refl) r
ends_step p k es s e s' (holds {i = i} {n = n} takes is) r =
    let ov = not_over k es s i takes.can.taker takes.can.free r in
    ends_wait k es s i (Barrier n) (set s.inputs.shut i Held) takes.can.taker ov (shut_by_barrier k es s i n takes.can.taker ov takes.can.input takes.admitted.0 takes.admitted.1 r) r
ends_step p k es s e s' (aligns {i = i} {n = n} takes is) r =
    let ov = not_over k es s i takes.can.taker takes.can.free r in
    ends_past k es s i (Barrier n) (set s.inputs.shut i Held) takes.can.taker ov takes.can.idle (shut_by_barrier k es s i n takes.can.taker ov takes.can.input takes.admitted.0 takes.admitted.1 r) is r
ends_step p k es s e s' (ends {i = i} takes is) r =
    let ov = not_over k es s i takes.can.taker takes.can.free r in
    ends_wait k es s i End (set s.inputs.shut i Ended) takes.can.taker ov (shut_by_end k es s i takes.can.taker ov takes.can.input r) r
ends_step p k es s e s' (ends_all {i = i} takes is) r =
    let ov = not_over k es s i takes.can.taker takes.can.free r in
    ends_over k es s i End (set s.inputs.shut i Ended) takes.can.taker ov takes.can.idle (shut_by_end k es s i takes.can.taker ov takes.can.input r) is r
ends_step p k es s e s' (ends_aligned {i = i} takes is) r =
    let ov = not_over k es s i takes.can.taker takes.can.free r in
    ends_past k es s i End (set s.inputs.shut i Ended) takes.can.taker ov takes.can.idle (shut_by_end k es s i takes.can.taker ov takes.can.input r) is r

-- a task that has done nothing
pub record IsIdle (k : AbstractTask) (s : State) : Type 0 where
  pub over : s.over ≡ false
  pub pending : s.pending ≡ []
  pub shut : s.inputs.shut ≡ replicate k.inputs Free

ends_fresh : (k : AbstractTask) (s : State) → IsIdle k s → HasEnds k [] s
ends_fresh k s f =
    let free : (i : ℕ) → i < k.inputs → shut_at s.inputs.shut i ≡ Free = λ i l. ap (λ x. shut_at x i) f.shut ∙ get_free k.inputs i l in
    record {
      shut_length = λ ns. ap length f.shut ∙ length-replicate k.inputs Free;
      over_shut = λ ns o. absurd (false≢true (sym f.over ∙ o));
      held = λ ns o i l h. absurd (let e : Free ≡ Held = sym (free i l) ∙ h in cc);
      shut = λ ns i l h. absurd (let e : Free ≡ Ended = sym (free i l) ∙ h in cc);
      over_taken = λ ns o. absurd (false≢true (sym f.over ∙ o));
      going = λ o j q. ap (λ p. ended (last_of k) (onto (only j p) [])) f.pending;
      closed = λ o. absurd (false≢true (sym f.over ∙ o));
      source = λ a o. absurd (false≢true (sym f.over ∙ o));
    }

pub has_ends : (p : PlanData) (k : AbstractTask) (start : State) → IsIdle k start → {es : List Event} {s : State} → Run p k start es s → HasEnds k es s
has_ends p k start f none = ends_fresh k start f
has_ends p k start f (more {es = es} {s = s} {e = e} {s' = s'} run st) = ends_step p k es s e s' st (has_ends p k start f run)
