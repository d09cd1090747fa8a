-- Each task's steps can be cut where it has aligned on a barrier.
use Rattle.std.proofs.Common.{◌≡◌, ℕ, suc, ◌+◌, ◌<◌, ◌≤◌, List, [], ◌∷◌, ◌++◌, true, false, cond, length, get_or, set, refl, sym, ap, subst, ◌∙◌, inl, inr, arith, get_or-set_same, get_or-set_other, if◌then◌else◌}
use Rattle.std.proofs.lemmas.List.{length-append}
use Rattle.std.proofs.lemmas.Bool.{cases_eq, cases_Bool, eq-eqb, ne_eqb, false≢true}
use Rattle.std.specs.List.{filter}
use Rattle.plan_model.specs.PlanData.{PlanData}
use Rattle.input_state.specs.declared.inputs.Shut.{Shut}
use Rattle.input_state.specs.declared.inputs.Shut.TheVariants.{Free, Held, Ended}
use Rattle.plain_data.specs.Times.{lowest}
use Rattle.input_state.specs.Inputs.{inputs_from, least, risen, rise, is_free, shut_at, all_shut, any_held, let_go, released}
use Rattle.dataflow_model.specs.declared.message.Message.{Message}
use Rattle.dataflow_model.specs.declared.message.Message.TheVariants.{Rows, Fired, Watermark, Barrier, End}
use Rattle.dataflow_model.specs.declared.role.Role.TheVariants.{Source}
use Rattle.dataflow_model.specs.Message.{records_of}
use Rattle.dataflow_model.specs.Role.{is_source}
use Rattle.dataflow_model.specs.AbstractTask.{AbstractTask}
use Rattle.dataflow_model.specs.State.{State, Kept, kept_of}
use Rattle.dataflow_model.specs.Routes.{batch, part, route_of, to_all, fired}
use Rattle.dataflow_model.specs.Steps.{Event, Open, Read, Save, Stop, Close, Take, Put, LocalStep, past_barrier}
use Rattle.dataflow_model.specs.Steps.LocalStep.{put, opens, reads, saves, stops, closes, chain_rows, chain_mark, window_rows, window_mark, sink_rows, sink_mark, holds, aligns, ends, ends_all, ends_aligned}
use Rattle.dataflow_model.specs.Runs.{taken, sent, only, onto, given}
use Rattle.dataflow_model.proofs.Facts.{given_put, given_spread, free_is, get_free, no_source, released_at, all_shut_at}
use Rattle.dataflow_laws.proofs.Reader.{width_of, only_route_of}
use Rattle.dataflow_laws.proofs.Ends.{is_final, ended, Closed, HasEnds, IsIdle, not_over, ended_batch, ended_fired, told_ended, both_ended, given_ended, aligned_by}

-- what has come on an input, by how it stands: no barrier from n on, or barrier n or an end at last. Barriers are
-- counted from f
abbrev pub Waiting : ℕ → Shut → ℕ → List Message → Type 0
Waiting f Free n log = (m : ℕ) → n ≤ m → ended (f + m) log ≡ false
Waiting f Held n log = (before : List Message) × (log ≡ Barrier (f + n) ∷ before) × ((m : ℕ) → n ≤ m → ended (f + m) before ≡ false)
Waiting f Ended n log = (before : List Message) × (log ≡ End ∷ before) × ((m : ℕ) → n ≤ m → ended (f + m) before ≡ false)

to_free : (f : ℕ) (v : Shut) (n : ℕ) (log : List Message) → v ≡ Free → Waiting f Free n log → Waiting f v n log
to_free f v n log e w = subst (λ x. Waiting f x n log) (sym e) w

at_free : (f : ℕ) (v : Shut) (n : ℕ) (log : List Message) → v ≡ Free → Waiting f v n log → Waiting f Free n log
at_free f v n log e w = subst (λ x. Waiting f x n log) e w

pub shut_closed : (f : ℕ) (v : Shut) (n : ℕ) (log : List Message) → (v ≡ Free → ⊥) → Waiting f v n log → Closed (f + n) log
shut_closed f Free n log ne w = absurd (ne refl)
shut_closed f Held n log ne w = record { last = Barrier (f + n); before = w.0; is = w.1; is_end = eq-eqb (f + n) (f + n) refl; first = w.2 n (omega arith) }
shut_closed f Ended n log ne w = record { last = End; before = w.0; is = w.1; is_end = refl; first = w.2 n (omega arith) }

-- an input that is let go waits for the next barrier
let_go_waits : (f : ℕ) (v : Shut) (n : ℕ) (log : List Message) → (v ≡ Free → ⊥) → Waiting f v n log → Waiting f (let_go v) (suc n) log
let_go_waits f Free n log ne w = absurd (ne refl)
let_go_waits f Held n log ne w = λ m le. ap (ended (f + m)) w.1 ∙ (let d = ne_eqb (f + n) (f + m) (λ e. absurd (omega arith)) in ap (λ t. cond t true (ended (f + m) w.0)) d ∙ w.2 m (omega arith))
let_go_waits f Ended n log ne w = (w.0, w.1, λ m le. w.2 m (omega arith))

held_now : (f n : ℕ) (log : List Message) → Waiting f Free n log → Waiting f Held n (Barrier (f + n) ∷ log)
held_now f n log w = (log, refl, w)

pub end_now : (f n : ℕ) (log : List Message) → Waiting f Free n log → Waiting f Ended n (End ∷ log)
end_now f n log w = (log, refl, w)

-- what is known of a task's inputs and outputs while it goes on
pub record Waits (k : AbstractTask) (es : List Event) (s : State) : Type 0 where
  pub inputs : is_source k.role ≡ false → s.over ≡ false → (i : ℕ) → i < k.inputs → Waiting k.first (shut_at s.inputs.shut i) s.next (taken i es)
  pub outputs : s.over ≡ false → (j : ℕ) → j < k.outputs → (m : ℕ) → s.next ≤ m → ended (k.first + m) (given j es s) ≡ false
  pub kept : s.over ≡ false → length s.kept ≡ s.next

-- what an input has given after a message that is no barrier and no end
taken_waits : (f n : ℕ) (shut : List Shut) (es : List Event) (i : ℕ) (m : Message) → ((x : ℕ) → is_final x m ≡ false) → shut_at shut i ≡ Free → (x : ℕ) → Waiting f (shut_at shut x) n (taken x es) → Waiting f (shut_at shut x) n (taken x (Take i m ∷ es))
taken_waits f n shut es i m nope fr x w =
    elim (cases_eq x i) [
      | inr ne ↦ (let d = ne_eqb x i ne in rw d w)
      | inl e ↦
          (let d = eq-eqb x i e in
          let fx : shut_at shut x ≡ Free = ap (shut_at shut) e ∙ fr in
          let w' = at_free f (shut_at shut x) n (taken x es) fx w in
          to_free f (shut_at shut x) n (taken x (Take i m ∷ es)) fx (λ a le. rw d (let z = nope (f + a) in rw z (w' a le))))
    ]

waits_same : (k : AbstractTask) (es : List Event) (s : State) (e : Event) (s' : State) → s.over ≡ false → s'.inputs.shut ≡ s.inputs.shut → s'.next ≡ s.next → s'.kept ≡ s.kept
    → ((i : ℕ) → Waiting k.first (shut_at s.inputs.shut i) s.next (taken i es) → Waiting k.first (shut_at s.inputs.shut i) s.next (taken i (e ∷ es)))
    → ((n j : ℕ) → j < k.outputs → ended n (given j (e ∷ es) s') ≡ ended n (given j es s)) → Waits k es s → Waits k (e ∷ es) s'
waits_same k es s e s' ov se ne ke te ge r =
    record {
      inputs = λ ns o i l. subst (λ n. Waiting k.first (shut_at s'.inputs.shut i) n (taken i (e ∷ es))) (sym ne) (subst (λ x. Waiting k.first (shut_at x i) s.next (taken i (e ∷ es))) (sym se) (te i (r.inputs ns ov i l)));
      outputs = λ o j l m le. ge (k.first + m) j l ∙ r.outputs ov j l m (subst (λ n. n ≤ m) ne le);
      kept = λ o. ap length ke ∙ r.kept ov ∙ sym ne;
    }

-- how inputs stand after a barrier or an end on input i
mark_waits : (f n : ℕ) (shut : List Shut) (es : List Event) (i : ℕ) (m : Message) (v : Shut) → ((log : List Message) → Waiting f Free n log → Waiting f v n (m ∷ log)) → i < length shut → shut_at shut i ≡ Free → (x : ℕ) → Waiting f (shut_at shut x) n (taken x es) → Waiting f (shut_at (set shut i v) x) n (taken x (Take i m ∷ es))
mark_waits f n shut es i m v h il fr x w =
    elim (cases_eq x i) [
      | inr ne ↦ (let d = ne_eqb x i ne in rw d (subst (λ y. Waiting f y n (taken x es)) (sym (get_or-set_other shut i x v Ended ne)) w))
      | inl e ↦
          (let d = eq-eqb x i e in
          let fx : shut_at shut x ≡ Free = ap (shut_at shut) e ∙ fr in
          let g : shut_at (set shut i v) x ≡ v = ap (shut_at (set shut i v)) e ∙ get_or-set_same shut i v Ended il in
          rw d (subst (λ y. Waiting f y n (m ∷ taken x es)) (sym g) (h (taken x es) (at_free f (shut_at shut x) n (taken x es) fx w))))
    ]

-- what stands at a barrier or an end on input i, of a task that waits
pub record Marks (k : AbstractTask) (es : List Event) (s : State) (i : ℕ) (m : Message) (shut : List Shut) : Type 0 where
  pub waits : (x : ℕ) → x < k.inputs → Waiting k.first (shut_at shut x) s.next (taken x (Take i m ∷ es))

pub marks_by : (k : AbstractTask) (es : List Event) (s : State) (i : ℕ) (m : Message) (v : Shut) → ((log : List Message) → Waiting k.first Free s.next log → Waiting k.first v s.next (m ∷ log)) → is_source k.role ≡ false → s.over ≡ false → i < k.inputs → is_free (shut_at s.inputs.shut i) ≡ true → HasEnds k es s → Waits k es s → Marks k es s i m (set s.inputs.shut i v)
marks_by k es s i m v h ns ov l fr he r =
    let il : i < length s.inputs.shut = (let n = he.shut_length ns in omega arith) in
    record { waits = λ x xl. mark_waits k.first s.next s.inputs.shut es i m v h il (free_is (shut_at s.inputs.shut i) fr) x (r.inputs ns ov x xl) }

pub marks_barrier : (k : AbstractTask) (es : List Event) (s : State) (i n : ℕ) → n ≡ k.first + s.next → is_source k.role ≡ false → s.over ≡ false → i < k.inputs → is_free (shut_at s.inputs.shut i) ≡ true → HasEnds k es s → Waits k es s → Marks k es s i (Barrier n) (set s.inputs.shut i Held)
marks_barrier k es s i n e ns ov l fr he r = subst (λ x. Marks k es s i (Barrier x) (set s.inputs.shut i Held)) (sym e) (marks_by k es s i (Barrier (k.first + s.next)) Held (held_now k.first s.next) ns ov l fr he r)

-- other inputs wait
waits_quiet : (k : AbstractTask) (es : List Event) (s : State) (i : ℕ) (m : Message) (shut : List Shut) → Marks k es s i m shut → Waits k es s → Waits k (Take i m ∷ es) (record s { inputs = inputs_from s.inputs.marks shut })
waits_quiet k es s i m shut by r = record { inputs = λ n o x xl. by.waits x xl; outputs = r.outputs; kept = r.kept }

-- a task passes barrier n
pub record Passes (k : AbstractTask) (es : List Event) (s : State) (e : Event) (s' : State) : Type 0 where
  pub idle : s.pending ≡ []
  pub going : s.over ≡ false
  pub unsent : (j : ℕ) → sent j (e ∷ es) ≡ sent j es
  pub puts : s'.pending ≡ to_all k.outputs (Barrier (k.first + s.next))
  pub next : s'.next ≡ suc s.next

pub passed_given : (k : AbstractTask) (es : List Event) (s : State) (e : Event) (s' : State) → Passes k es s e s' → (j : ℕ) → j < k.outputs → given j (e ∷ es) s' ≡ Barrier (k.first + s.next) ∷ given j es s
passed_given k es s e s' b j l =
    ap (λ p. onto (only j p) (sent j (e ∷ es))) b.puts ∙ ap (onto (only j (to_all k.outputs (Barrier (k.first + s.next))))) (b.unsent j)
    ∙ given_spread k.outputs (λ j. Barrier (k.first + s.next) ∷ []) j (sent j es) s.pending b.idle l

passed_outputs : (k : AbstractTask) (es : List Event) (s : State) (e : Event) (s' : State) → Passes k es s e s' → Waits k es s → (j : ℕ) → j < k.outputs → (m : ℕ) → suc s.next ≤ m → ended (k.first + m) (given j (e ∷ es) s') ≡ false
passed_outputs k es s e s' b r j l m le =
    ap (ended (k.first + m)) (passed_given k es s e s' b j l)
    ∙ (let d = ne_eqb (k.first + s.next) (k.first + m) (λ q. absurd (omega arith)) in ap (λ t. cond t true (ended (k.first + m) (given j es s))) d ∙ r.outputs b.going j l m (omega arith))

kept_more : (kept : List Kept) (x : Kept) (n : ℕ) → length kept ≡ n → length (kept ++ x ∷ []) ≡ suc n
kept_more kept x n e = let a = length-append kept (x ∷ []) in omega (arith, a, e)

waits_past : (k : AbstractTask) (es : List Event) (s : State) (i : ℕ) (m : Message) (shut : List Shut) → s.over ≡ false → s.pending ≡ [] → all_shut shut ≡ true → Marks k es s i m shut → Waits k es s → Waits k (Take i m ∷ es) (past_barrier k s shut)
waits_past k es s i m shut ov idle all by r =
    let new : State = past_barrier k s shut in
    let b : Passes k es s (Take i m) new = record { idle = idle; going = ov; unsent = λ j. refl; puts = refl; next = refl } in
    record {
      inputs = λ n o x xl.
          let shut_is : new.inputs.shut ≡ released shut = ap (λ t. if t then shut else released shut) o in
          let at : shut_at new.inputs.shut x ≡ let_go (shut_at shut x) = ap (λ y. shut_at y x) shut_is ∙ released_at shut x in
          subst (λ y. Waiting k.first y (suc s.next) (taken x (Take i m ∷ es))) (sym at) (let_go_waits k.first (shut_at shut x) s.next (taken x (Take i m ∷ es)) (all_shut_at shut x all) (by.waits x xl));
      outputs = λ o j l n le. passed_outputs k es s (Take i m) new b r j l n le;
      kept = λ o. ap (λ t. length (if t then s.kept else (s.kept ++ kept_of s ∷ []))) o ∙ kept_more s.kept (kept_of s) s.next (r.kept ov);
    }

-- a task that is over waits for nothing
waits_over : (k : AbstractTask) (es : List Event) (s : State) → s.over ≡ true → Waits k es s
waits_over k es s o = record { inputs = λ n g. absurd (false≢true (sym g ∙ o)); outputs = λ g. absurd (false≢true (sym g ∙ o)); kept = λ g. absurd (false≢true (sym g ∙ o)) }

waits_save : (k : AbstractTask) (es : List Event) (s : State) → k.role ≡ Source → s.over ≡ false → s.pending ≡ [] → Waits k es s
    → Waits k (Save ∷ es) (record s { next = suc s.next; kept = s.kept ++ kept_of s ∷ []; pending = to_all k.outputs (Barrier (k.first + s.next)) })
waits_save k es s a ov idle r =
    let new : State = record s { next = suc s.next; kept = s.kept ++ kept_of s ∷ []; pending = to_all k.outputs (Barrier (k.first + s.next)) } in
    let b : Passes k es s Save new = record { idle = idle; going = ov; unsent = λ j. refl; puts = refl; next = refl } in
    record {
      inputs = λ n. absurd (no_source k n a);
      outputs = λ o j l n le. passed_outputs k es s Save new b r j l n le;
      kept = λ o. kept_more s.kept (kept_of s) s.next (r.kept ov);
    }

pub waits_step : (p : PlanData) (k : AbstractTask) (es : List Event) (s : State) (e : Event) (s' : State) → LocalStep p k s e s' → HasEnds k es s → Waits k es s → Waits k (e ∷ es) s'
waits_step p k es s e s' (put {j = i} {m = m} {rest = rest} is) he r =
    let same : (j : ℕ) → given j (Put i m ∷ es) (record s { pending = rest }) ≡ given j es s = λ j. given_put j i m rest (sent j es) ∙ ap (λ p. onto (only j p) (sent j es)) (sym is) in
    record { inputs = r.inputs; outputs = λ o j l n le. ap (ended (k.first + n)) (same j) ∙ r.outputs o j l n le; kept = r.kept }
waits_step p k es s e s' (opens can) he r =
    let ov : s.over ≡ false = elim (cases_Bool s.over) [ inr x ↦ x | inl x ↦ absurd (false≢true (sym can.shut ∙ (he.source can.source x).0)) ] in
    waits_same k es s Open s' ov refl refl refl (λ i w. w) (λ n j l. told_ended n k (risen lowest (least s.inputs.marks)) (sent j es) s.pending j can.idle l) r
waits_step p k es s e s' (reads {n = n} {q = q} own) he r =
    let m : Message = k.entry q (get_or s.offsets q 0) in
    waits_same k es s (Read n) s' own.can.can.going refl refl refl (λ i w. w)
    (λ n j l. both_ended n k (route_of p.window.key k s.cursor m) (rise s.inputs.marks q (k.brings q (get_or s.offsets q 0))) (sent j es) s.pending j own.can.can.idle l
    (ap (ended n) (only_route_of p.window.key k s.cursor m j (sent j es) l) ∙ ended_batch n (width_of m) (part p.window.key k.routing s.cursor (filter k.keeps (records_of m)) j) (sent j es))) r
waits_step p k es s e s' (saves can may) he r = waits_save k es s can.source can.going can.idle r
waits_step p k es s e s' (stops can may) he r = waits_over k (Stop ∷ es) s' refl
waits_step p k es s e s' (closes can may) he r = waits_over k (Close ∷ es) s' refl
waits_step p k es s e s' (chain_rows {i = i} {t = t} a takes) he r =
    waits_same k es s (Take i (Rows t)) s' (not_over k es s i takes.can.taker takes.can.free he) refl refl refl (taken_waits k.first s.next s.inputs.shut es i (Rows t) (λ x. refl) (free_is (shut_at s.inputs.shut i) takes.can.free))
    (λ n. given_ended n k (λ j. batch t.width (part p.window.key k.routing s.cursor (filter k.keeps t.rows) j)) (λ j. sent j es) s.pending takes.can.idle (λ j x. ended_batch n t.width (part p.window.key k.routing s.cursor (filter k.keeps t.rows) j) x)) r
waits_step p k es s e s' (chain_mark {i = i} {t = t} a takes) he r =
    waits_same k es s (Take i (Watermark t)) s' (not_over k es s i takes.can.taker takes.can.free he) refl refl refl (taken_waits k.first s.next s.inputs.shut es i (Watermark t) (λ x. refl) (free_is (shut_at s.inputs.shut i) takes.can.free))
    (λ n j l. told_ended n k (rise s.inputs.marks i t) (sent j es) s.pending j takes.can.idle l) r
waits_step p k es s e s' (window_rows {i = i} {t = t} a takes added) he r =
    waits_same k es s (Take i (Rows t)) s' (not_over k es s i takes.can.taker takes.can.free he) refl refl refl (taken_waits k.first s.next s.inputs.shut es i (Rows t) (λ x. refl) (free_is (shut_at s.inputs.shut i) takes.can.free)) (λ n j l. refl) r
waits_step p k es s e s' (window_mark {i = i} {t = t} rows a takes fires) he r =
    waits_same k es s (Take i (Watermark t)) s' (not_over k es s i takes.can.taker takes.can.free he) refl refl refl (taken_waits k.first s.next s.inputs.shut es i (Watermark t) (λ x. refl) (free_is (shut_at s.inputs.shut i) takes.can.free))
    (λ n j l. both_ended n k (fired rows) (rise s.inputs.marks i t) (sent j es) s.pending j takes.can.idle l (ended_fired n j rows (sent j es))) r
waits_step p k es s e s' (sink_rows {i = i} {rows = rows} a takes) he r =
    waits_same k es s (Take i (Fired rows)) s' (not_over k es s i takes.can.taker takes.can.free he) refl refl refl (taken_waits k.first s.next s.inputs.shut es i (Fired rows) (λ x. refl) (free_is (shut_at s.inputs.shut i) takes.can.free)) (λ n j l. refl) r
waits_step p k es s e s' (sink_mark {i = i} {t = t} a takes) he r =
    waits_same k es s (Take i (Watermark t)) s' (not_over k es s i takes.can.taker takes.can.free he) refl refl refl (taken_waits k.first s.next s.inputs.shut es i (Watermark t) (λ x. refl) (free_is (shut_at s.inputs.shut i) takes.can.free)) (λ n j l. refl) r
waits_step p k es s e s' (holds {i = i} {n = n} takes is) he r =
    let ov = not_over k es s i takes.can.taker takes.can.free he in
    waits_quiet k es s i (Barrier n) (set s.inputs.shut i Held) (marks_barrier k es s i n takes.admitted.0 takes.can.taker ov takes.can.input takes.can.free he r) r
waits_step p k es s e s' (aligns {i = i} {n = n} takes is) he r =
    let ov = not_over k es s i takes.can.taker takes.can.free he in
    waits_past k es s i (Barrier n) (set s.inputs.shut i Held) ov takes.can.idle (aligned_by (all_shut (set s.inputs.shut i Held)) (any_held (set s.inputs.shut i Held)) is).0 (marks_barrier k es s i n takes.admitted.0 takes.can.taker ov takes.can.input takes.can.free he r) r
waits_step p k es s e s' (ends {i = i} takes is) he r =
    let ov = not_over k es s i takes.can.taker takes.can.free he in
    waits_quiet k es s i End (set s.inputs.shut i Ended) (marks_by k es s i End Ended (end_now k.first s.next) takes.can.taker ov takes.can.input takes.can.free he r) r
waits_step p k es s e s' (ends_all {i = i} takes is) he r = waits_over k (Take i End ∷ es) s' refl
waits_step p k es s e s' (ends_aligned {i = i} takes is) he r =
    let ov = not_over k es s i takes.can.taker takes.can.free he in
    waits_past k es s i End (set s.inputs.shut i Ended) ov takes.can.idle (aligned_by (all_shut (set s.inputs.shut i Ended)) (any_held (set s.inputs.shut i Ended)) is).0 (marks_by k es s i End Ended (end_now k.first s.next) takes.can.taker ov takes.can.input takes.can.free he r) r

pub waits_fresh : (k : AbstractTask) (s : State) → IsIdle k s → s.next ≡ 0 → s.kept ≡ [] → Waits k [] s
waits_fresh k s f fn fk =
    record {
      inputs = λ ns o i l. to_free k.first (shut_at s.inputs.shut i) s.next [] (ap (λ x. shut_at x i) f.shut ∙ get_free k.inputs i l) (λ m le. refl);
      outputs = λ o j l m le. ap (λ p. ended (k.first + m) (onto (only j p) [])) f.pending;
      kept = λ o. ap length fk ∙ sym fn;
    }
