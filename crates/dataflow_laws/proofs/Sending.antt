-- What a task has given on each output.
use Rattle.std.proofs.Common.{◌≡◌, ℕ, suc, ◌+◌, ◌<◌, ◌≤◌, ℤ, List, [], ◌∷◌, Bool, true, false, cond, eqb, get_or, set, refl, sym, ap, subst, ◌∙◌, ◌⊎◌, inl, inr, arith, Option, Some, None}
use Rattle.std.specs.List.{filter, All, AllByRecursion}
use Rattle.std.proofs.lemmas.Bool.{cases_Bool, eq-eqb, ne_eqb, and_right, false≢true}
use Rattle.std.proofs.lemmas.List.Elements.{All-nil, All-filter}
use Rattle.plain_data.specs.Record.{Record, at}
use Rattle.plain_data.specs.Times.{lowest}
use Rattle.columns.specs.Table.{Table}
use Rattle.plan_model.specs.declared.spec.Row.{Row}
use Rattle.plan_model.specs.PlanData.{PlanData}
use Rattle.plan_model.specs.Windows.{IsTime}
use Rattle.input_state.specs.declared.inputs.Shut.TheVariants.{Ended}
use Rattle.input_state.specs.Inputs.{rise, risen, least, any_held, all_shut}
use Rattle.dataflow_model.specs.declared.message.Message.{Message}
use Rattle.dataflow_model.specs.declared.message.Message.TheVariants.{Rows, Fired, Watermark, Barrier, End}
use Rattle.dataflow_model.specs.declared.role.Role.{Role}
use Rattle.dataflow_model.specs.declared.role.Role.TheVariants.{Source, Chain, Window, Sink}
use Rattle.dataflow_model.specs.declared.ending.Ending.{Ending}
use Rattle.dataflow_model.specs.declared.ending.Ending.TheVariants.{AtEnd, AtCut, Asked}
use Rattle.dataflow_model.specs.Role.{is_source, is_window}
use Rattle.dataflow_model.specs.Ending.{may_stop}
use Rattle.dataflow_model.specs.AbstractTask.{AbstractTask, Routing, Whole, Split}
use Rattle.dataflow_model.specs.State.{State}
use Rattle.dataflow_model.specs.Routes.{batch, part, route, route_of, to_all, announce, fired}
use Rattle.dataflow_model.specs.Steps.{Event, Put, LocalStep, MayStop, barriers, is_last}
use Rattle.dataflow_model.specs.Steps.LocalStep.{put, opens, reads, saves, stops, closes, chain_rows, chain_mark, window_rows, window_mark, sink_rows, sink_mark, holds, aligns, ends, ends_all, ends_aligned}
use Rattle.dataflow_model.specs.Runs.{Run, sent, only, onto, given}
use Rattle.dataflow_model.specs.Runs.Run.{none, more}
use Rattle.dataflow_model.proofs.Facts.{given_put, given_spread}
use Rattle.dataflow_laws.specs.Admission.{FitsPlan}
use Rattle.dataflow_laws.proofs.Events.{IsPut, put_is, sent_same}
use Rattle.dataflow_laws.proofs.Opened.{IsFresh}
use Rattle.dataflow_laws.proofs.Reading.{HasLimits, limit_up, Reading, reading}
use Rattle.dataflow_laws.proofs.Marks.{is_barrier, passed, Closed, Numbered, IsQuiet, quiet_barrier, onto_passed, onto_ended, onto_numbered, onto_all, all_weaker, all_append, all_spread, all_only, IsPhase, phase_rest, once_each}
use Rattle.dataflow_laws.proofs.Aligning.{last_of, has_ended, final_is, Ins, ins, not_over, held_left, aligned_both}

abbrev pub sends_rows : Role → Bool
sends_rows Source = true
sends_rows Chain = true
sends_rows Window = false
sends_rows Sink = false

-- a message that a task of this role gives
abbrev pub Gives : PlanData → Role → Message → Type 0
Gives p r (Rows t) = (sends_rows r ≡ true) × FitsPlan p (Rows t)
Gives p r (Fired rows) = is_window r ≡ true
Gives p r (Watermark t) = Unit {0}
Gives p r (Barrier n) = Unit {0}
Gives p r End = Unit {0}

-- pending messages are for outputs that there are, and are no barriers and no ends
abbrev Fit : PlanData → AbstractTask → ℕ × Message → Type 0
Fit p k x = (x.0 < k.outputs) × IsQuiet x.1 × Gives p k.role x.1

abbrev Times : PlanData → List Record → Type 0
Times p rs = All (λ r. IsTime (at p.window.time r)) rs

times_part : (p : PlanData) (key : ℕ) (routing : Routing) (cursor : ℕ) (xs : List Record) (j : ℕ) → Times p xs → Times p (part key routing cursor xs j)
times_part p key Whole cursor xs j h = elim (cases_Bool (eqb j cursor)) [ inl e ↦ rw e h | inr e ↦ rw e (All-nil (λ r. IsTime (at p.window.time r))) ]
times_part p key (Split owner) cursor xs j h = All-filter (λ r. eqb (owner (at key r)) j) (λ r. IsTime (at p.window.time r)) xs h

fit_batch : (p : PlanData) (k : AbstractTask) (j width : ℕ) (xs : List Record) → j < k.outputs → sends_rows k.role ≡ true → width ≡ p.columns → Times p xs → AllByRecursion (λ m. Fit p k (j, m)) (batch width xs)
fit_batch p k j width [] l s w h = tt
fit_batch p k j width (x ∷ xs) l s w h = ((l, tt, (s, (w, h))), tt)

fit_route : (p : PlanData) (k : AbstractTask) (cursor : ℕ) (t : Table) → sends_rows k.role ≡ true → FitsPlan p (Rows t) → AllByRecursion (Fit p k) (route p.window.key k cursor t)
fit_route p k cursor t s e = all_spread (Fit p k) k.outputs (λ j. batch t.width (part p.window.key k.routing cursor (filter k.keeps t.rows) j)) (λ j l.
    fit_batch p k j t.width (part p.window.key k.routing cursor (filter k.keeps t.rows) j) l s e.0 (times_part p p.window.key k.routing cursor (filter k.keeps t.rows) j (All-filter k.keeps (λ r. IsTime (at p.window.time r)) t.rows e.1)))

fit_route_of : (p : PlanData) (k : AbstractTask) (cursor : ℕ) (m : Message) → sends_rows k.role ≡ true → FitsPlan p m → AllByRecursion (Fit p k) (route_of p.window.key k cursor m)
fit_route_of p k cursor (Rows t) s e = fit_route p k cursor t s e
fit_route_of p k cursor (Fired rows) s e = tt
fit_route_of p k cursor (Watermark t) s e = tt
fit_route_of p k cursor (Barrier n) s e = tt
fit_route_of p k cursor End s e = tt

fit_announce : (p : PlanData) (k : AbstractTask) (o : Option ℤ) → AllByRecursion (Fit p k) (announce k.outputs o)
fit_announce p k None = tt
fit_announce p k (Some t) = all_spread (Fit p k) k.outputs (λ j. Watermark t ∷ []) (λ j l. ((l, tt, tt), tt))

fit_fired : (p : PlanData) (k : AbstractTask) (rows : List Row) → k.role ≡ Window → 0 < k.outputs → AllByRecursion (Fit p k) (fired rows)
fit_fired p k [] a l = tt
fit_fired p k (r ∷ rows) a l = ((l, tt, ap is_window a), tt)

-- what a step that is no put makes pending
data Sends (p : PlanData) (k : AbstractTask) (s s' : State) : Type 0 where
  quiet : s'.over ≡ s.over → s'.next ≡ s.next → AllByRecursion (Fit p k) s'.pending → Sends p k s s'
  barrier : s'.pending ≡ to_all k.outputs (Barrier (k.first + s.next)) → s'.next ≡ suc s.next → s'.over ≡ is_last k s.next → s.next < barriers k → Sends p k s s'
  last : s'.pending ≡ to_all k.outputs End → s'.next ≡ s.next → s'.over ≡ true → Sends p k s s'

record Sent (p : PlanData) (k : AbstractTask) (s : State) (e : Event) (s' : State) : Type 0 where
  other : IsPut e → ⊥
  had : s.pending ≡ []
  going : s.over ≡ false
  sends : Sends p k s s'

-- a task in its place: it begins in an opening state, and its entries are admitted
pub record Sound (p : PlanData) (k : AbstractTask) (start : State) : Type 0 where
  pub fresh : IsFresh k start
  pub windows : k.role ≡ Window → 0 < k.outputs
  pub some : is_source k.role ≡ false → 0 < k.inputs
  pub limits : k.role ≡ Source → HasLimits k
  pub begins : k.role ≡ Source → Reading k start
  pub entries : k.role ≡ Source → (q n : ℕ) → q < k.inputs → n < k.size q → FitsPlan p (k.entry q n)

none_pending : (p : PlanData) (k : AbstractTask) (ps : List (ℕ × Message)) → ps ≡ [] → AllByRecursion (Fit p k) ps
none_pending p k ps e = subst (AllByRecursion (Fit p k)) (sym e) tt

stop_number : (k : AbstractTask) (s : State) (d : Ending) → k.ending ≡ d → MayStop d k s → (is_last k s.next ≡ true) × (s.next < barriers k)
stop_number k s AtEnd e m = absurd m
stop_number k s AtCut e m = let f = ap may_stop e in let g = eq-eqb s.next k.saves m.0 in let n = m.0 in (rw (f, g) refl, rw f (omega (arith, n)))
stop_number k s Asked e m = let f = ap may_stop e in let g = eq-eqb s.next k.saves m in (rw (f, g) refl, rw f (omega (arith, m)))

save_number : (k : AbstractTask) (n : ℕ) → n < k.saves → (is_last k n ≡ false) × (n < barriers k)
save_number k n l = let e = ne_eqb n k.saves (λ q. absurd (omega (arith, l, q))) in (and_right (may_stop k.ending) (eqb n k.saves) e, omega (arith, l))

step_sent : (p : PlanData) (k : AbstractTask) (start : State) (es : List Event) (s : State) (e : Event) (s' : State) → Sound p k start → (k.role ≡ Source → Reading k s) → (is_source k.role ≡ false → Ins k es s) → LocalStep p k s e s' → IsPut e ⊎ Sent p k s e s'
step_sent p k start es s e s' so rd inp (put is) = inl tt
step_sent p k start es s e s' so rd inp (opens can) = inr (record {
  other = λ x. x;
  had = can.idle;
  going = elim (cases_Bool s.over) [ inr o ↦ o | inl o ↦ absurd (false≢true (sym can.shut ∙ (rd can.source).opened o)) ];
  sends = quiet refl refl (fit_announce p k (risen lowest (least s.inputs.marks)));
})
step_sent p k start es s e s' so rd inp (reads {q = q} own) =
    let c = own.can.can in
    let role = c.source in
    let r = rd role in
    let a = limit_up k (so.limits role) q s.next own.can.partition (r.going c.going) in
    let b = (so.limits role).within q own.can.partition in
    let rest = own.can.rest in
    let m = k.entry q (get_or s.offsets q 0) in
    inr (record {
      other = λ x. x;
      had = c.idle;
      going = c.going;
      sends = quiet refl refl (all_append (Fit p k) (route_of p.window.key k s.cursor m) (announce k.outputs (rise s.inputs.marks q (k.brings q (get_or s.offsets q 0))))
          (fit_route_of p k s.cursor m (ap sends_rows role) (so.entries role q (get_or s.offsets q 0) own.can.partition (omega (arith, a, b, rest)))) (fit_announce p k (rise s.inputs.marks q (k.brings q (get_or s.offsets q 0)))));
    })
step_sent p k start es s e s' so rd inp (saves can may) = inr (record { other = λ x. x; had = can.idle; going = can.going; sends = (let n = save_number k s.next may.0 in barrier refl refl (can.going ∙ sym n.0) n.1) })
step_sent p k start es s e s' so rd inp (stops can may) = inr (record { other = λ x. x; had = can.idle; going = can.going; sends = (let n = stop_number k s k.ending refl may in barrier refl refl (sym n.0) n.1) })
step_sent p k start es s e s' so rd inp (closes can may) = inr (record { other = λ x. x; had = can.idle; going = can.going; sends = last refl refl refl })
step_sent p k start es s e s' so rd inp (chain_rows {i = i} {t = t} role takes) =
    inr (record { other = λ x. x; had = takes.can.idle; going = not_over k es s i takes.can (inp takes.can.taker); sends = quiet refl refl (fit_route p k s.cursor t (ap sends_rows role) (takes.admitted.1, takes.admitted.2)) })
step_sent p k start es s e s' so rd inp (chain_mark {i = i} {t = t} role takes) =
    inr (record { other = λ x. x; had = takes.can.idle; going = not_over k es s i takes.can (inp takes.can.taker); sends = quiet refl refl (fit_announce p k (rise s.inputs.marks i t)) })
step_sent p k start es s e s' so rd inp (window_rows {i = i} role takes added) =
    inr (record { other = λ x. x; had = takes.can.idle; going = not_over k es s i takes.can (inp takes.can.taker); sends = quiet refl refl (none_pending p k s.pending takes.can.idle) })
step_sent p k start es s e s' so rd inp (window_mark {i = i} {t = t} rows role takes fires) =
    inr (record {
      other = λ x. x;
      had = takes.can.idle;
      going = not_over k es s i takes.can (inp takes.can.taker);
      sends = quiet refl refl (all_append (Fit p k) (fired rows) (announce k.outputs (rise s.inputs.marks i t)) (fit_fired p k rows role (so.windows role)) (fit_announce p k (rise s.inputs.marks i t)));
    })
step_sent p k start es s e s' so rd inp (sink_rows {i = i} role takes) =
    inr (record { other = λ x. x; had = takes.can.idle; going = not_over k es s i takes.can (inp takes.can.taker); sends = quiet refl refl (none_pending p k s.pending takes.can.idle) })
step_sent p k start es s e s' so rd inp (sink_mark {i = i} role takes) =
    inr (record { other = λ x. x; had = takes.can.idle; going = not_over k es s i takes.can (inp takes.can.taker); sends = quiet refl refl (none_pending p k s.pending takes.can.idle) })
step_sent p k start es s e s' so rd inp (holds {i = i} takes is) =
    inr (record { other = λ x. x; had = takes.can.idle; going = not_over k es s i takes.can (inp takes.can.taker); sends = quiet refl refl (none_pending p k s.pending takes.can.idle) })
step_sent p k start es s e s' so rd inp (aligns {i = i} takes is) =
    inr (record { other = λ x. x; had = takes.can.idle; going = not_over k es s i takes.can (inp takes.can.taker); sends = barrier refl refl refl takes.admitted.1 })
step_sent p k start es s e s' so rd inp (ends {i = i} takes is) =
    inr (record { other = λ x. x; had = takes.can.idle; going = not_over k es s i takes.can (inp takes.can.taker); sends = quiet refl refl (none_pending p k s.pending takes.can.idle) })
step_sent p k start es s e s' so rd inp (ends_all {i = i} takes is) =
    inr (record { other = λ x. x; had = takes.can.idle; going = not_over k es s i takes.can (inp takes.can.taker); sends = last refl refl refl })
step_sent p k start es s e s' so rd inp (ends_aligned {i = i} takes is) =
    let x = inp takes.can.taker in
    inr (record { other = λ x. x; had = takes.can.idle; going = not_over k es s i takes.can x; sends = barrier refl refl refl (held_left k es s i takes.can x (aligned_both (all_shut (set s.inputs.shut i Ended)) (any_held (set s.inputs.shut i Ended)) is).1) })

-- ---- what was given

pub record Outs (p : PlanData) (k : AbstractTask) (es : List Event) (s : State) : Type 0 where
  pub within : AllByRecursion (λ x. x.0 < k.outputs) s.pending
  pub phase : IsPhase s.pending
  pub limit : s.next ≤ barriers k
  pub gives : (j : ℕ) → j < k.outputs → AllByRecursion (Gives p k.role) (given j es s)
  pub numbered : (j : ℕ) → j < k.outputs → Numbered k.first (given j es s)
  pub passes : (j : ℕ) → j < k.outputs → passed (given j es s) ≡ s.next
  pub going : s.over ≡ false → (j : ℕ) → j < k.outputs → has_ended k (given j es s) ≡ false
  pub closed : s.over ≡ true → (j : ℕ) → j < k.outputs → Closed (may_stop k.ending) (last_of k) (given j es s)

outs_put : (p : PlanData) (k : AbstractTask) (es : List Event) (s : State) (i : ℕ) (m : Message) (rest : List (ℕ × Message)) → s.pending ≡ (i, m) ∷ rest → Outs p k es s → Outs p k (Put i m ∷ es) (record s { pending = rest })
outs_put p k es s i m rest is r =
    let same : (j : ℕ) → given j es s ≡ given j (Put i m ∷ es) (record s { pending = rest }) = λ j. ap (λ q. onto (only j q) (sent j es)) is ∙ sym (given_put j i m rest (sent j es)) in
    record {
      within = (subst (AllByRecursion (λ x. x.0 < k.outputs)) is r.within).1;
      phase = phase_rest (i, m) rest (subst IsPhase is r.phase);
      limit = r.limit;
      gives = λ j l. subst (AllByRecursion (Gives p k.role)) (same j) (r.gives j l);
      numbered = λ j l. subst (Numbered k.first) (same j) (r.numbered j l);
      passes = λ j l. ap passed (sym (same j)) ∙ r.passes j l;
      going = λ o j l. ap (has_ended k) (sym (same j)) ∙ r.going o j l;
      closed = λ o j l. subst (Closed (may_stop k.ending) (last_of k)) (same j) (r.closed o j l);
    }

-- what is given, after a step with nothing pending
given_after : (k : AbstractTask) (es : List Event) (s : State) (e : Event) (s' : State) (j : ℕ) → (IsPut e → ⊥) → s.pending ≡ [] → given j (e ∷ es) s' ≡ onto (only j s'.pending) (given j es s)
given_after k es s e s' j np had = ap (onto (only j s'.pending)) (elim (sent_same j e es) [ inl y ↦ absurd (np y) | inr y ↦ y ] ∙ sym (ap (λ q. onto (only j q) (sent j es)) had))

outs_quiet : (p : PlanData) (k : AbstractTask) (es : List Event) (s : State) (e : Event) (s' : State) → (IsPut e → ⊥) → s.pending ≡ [] → s.over ≡ false → s'.over ≡ s.over → s'.next ≡ s.next → AllByRecursion (Fit p k) s'.pending → Outs p k es s → Outs p k (e ∷ es) s'
outs_quiet p k es s e s' np had ov oe ne fit r =
    let same : (j : ℕ) → given j (e ∷ es) s' ≡ onto (only j s'.pending) (given j es s) = λ j. given_after k es s e s' j np had in
    let still : (j : ℕ) → AllByRecursion IsQuiet (only j s'.pending) = λ j. all_only IsQuiet j s'.pending (all_weaker (Fit p k) (λ x. IsQuiet x.1) (λ x f. f.1) s'.pending fit) in
    record {
      within = all_weaker (Fit p k) (λ x. x.0 < k.outputs) (λ x f. f.0) s'.pending fit;
      phase = inl (all_weaker (Fit p k) (λ x. is_barrier x.1 ≡ false) (λ x f. quiet_barrier x.1 f.1) s'.pending fit);
      limit = (let a = r.limit in omega (arith, a, ne));
      gives = λ j l. subst (AllByRecursion (Gives p k.role)) (sym (same j)) (onto_all (Gives p k.role) (only j s'.pending) (given j es s) (all_only (Gives p k.role) j s'.pending (all_weaker (Fit p k) (λ x. Gives p k.role x.1) (λ x f. f.2) s'.pending fit)) (r.gives j l));
      numbered = λ j l. subst (Numbered k.first) (sym (same j)) (onto_numbered k.first (only j s'.pending) (given j es s) (still j) (r.numbered j l));
      passes = λ j l. ap passed (same j) ∙ onto_passed (only j s'.pending) (given j es s) (still j) ∙ r.passes j l ∙ sym ne;
      going = λ o j l. ap (has_ended k) (same j) ∙ onto_ended (may_stop k.ending) (last_of k) (only j s'.pending) (given j es s) (still j) ∙ r.going ov j l;
      closed = λ o. absurd (false≢true (sym (oe ∙ ov) ∙ o));
    }

-- one message on every output
given_all : (k : AbstractTask) (es : List Event) (s : State) (e : Event) (s' : State) (m : Message) (j : ℕ) → j < k.outputs → (IsPut e → ⊥) → s.pending ≡ [] → s'.pending ≡ to_all k.outputs m → given j (e ∷ es) s' ≡ m ∷ given j es s
given_all k es s e s' m j l np had pe = given_after k es s e s' j np had ∙ ap (λ q. onto (only j q) (given j es s)) pe ∙ given_spread k.outputs (λ j. m ∷ []) j (given j es s) [] refl l

outs_barrier : (p : PlanData) (k : AbstractTask) (es : List Event) (s : State) (e : Event) (s' : State) → (IsPut e → ⊥) → s.pending ≡ [] → s.over ≡ false → s'.pending ≡ to_all k.outputs (Barrier (k.first + s.next)) → s'.next ≡ suc s.next → s'.over ≡ is_last k s.next → s.next < barriers k → Outs p k es s → Outs p k (e ∷ es) s'
outs_barrier p k es s e s' np had ov pe ne oe lim r =
    let m = Barrier (k.first + s.next) in
    let same : (j : ℕ) → j < k.outputs → given j (e ∷ es) s' ≡ m ∷ given j es s = λ j l. given_all k es s e s' m j l np had pe in
    record {
      within = subst (AllByRecursion (λ x. x.0 < k.outputs)) (sym pe) (all_spread (λ x. x.0 < k.outputs) k.outputs (λ j. m ∷ []) (λ j l. (l, tt)));
      phase = subst IsPhase (sym pe) (inr (all_spread (λ x. is_barrier x.1 ≡ true) k.outputs (λ j. m ∷ []) (λ j l. (refl, tt)), once_each k.outputs m));
      limit = omega (arith, lim, ne);
      gives = λ j l. subst (AllByRecursion (Gives p k.role)) (sym (same j l)) (tt, r.gives j l);
      numbered = λ j l. subst (Numbered k.first) (sym (same j l)) (ap (λ n. k.first + n) (sym (r.passes j l)), r.numbered j l);
      passes = λ j l. ap passed (same j l) ∙ (let a = r.passes j l in omega (arith, a, ne));
      going = λ o j l. ap (has_ended k) (same j l) ∙ ap (λ b. cond b true (has_ended k (given j es s))) (final_is k s.next ∙ sym oe ∙ o) ∙ r.going ov j l;
      closed = λ o j l. record { last = m; before = given j es s; is = same j l; is_end = final_is k s.next ∙ sym oe ∙ o; first = r.going ov j l };
    }

outs_last : (p : PlanData) (k : AbstractTask) (es : List Event) (s : State) (e : Event) (s' : State) → (IsPut e → ⊥) → s.pending ≡ [] → s.over ≡ false → s'.pending ≡ to_all k.outputs End → s'.next ≡ s.next → s'.over ≡ true → Outs p k es s → Outs p k (e ∷ es) s'
outs_last p k es s e s' np had ov pe ne oe r =
    let same : (j : ℕ) → j < k.outputs → given j (e ∷ es) s' ≡ End ∷ given j es s = λ j l. given_all k es s e s' End j l np had pe in
    record {
      within = subst (AllByRecursion (λ x. x.0 < k.outputs)) (sym pe) (all_spread (λ x. x.0 < k.outputs) k.outputs (λ j. End ∷ []) (λ j l. (l, tt)));
      phase = subst IsPhase (sym pe) (inl (all_spread (λ x. is_barrier x.1 ≡ false) k.outputs (λ j. End ∷ []) (λ j l. (refl, tt))));
      limit = (let a = r.limit in omega (arith, a, ne));
      gives = λ j l. subst (AllByRecursion (Gives p k.role)) (sym (same j l)) (tt, r.gives j l);
      numbered = λ j l. subst (Numbered k.first) (sym (same j l)) (tt, r.numbered j l);
      passes = λ j l. ap passed (same j l) ∙ (let a = r.passes j l in omega (arith, a, ne));
      going = λ o. absurd (false≢true (sym o ∙ oe));
      closed = λ o j l. record { last = End; before = given j es s; is = same j l; is_end = refl; first = r.going ov j l };
    }

outs_other : (p : PlanData) (k : AbstractTask) (es : List Event) (s : State) (e : Event) (s' : State) → (IsPut e → ⊥) → s.pending ≡ [] → s.over ≡ false → Sends p k s s' → Outs p k es s → Outs p k (e ∷ es) s'
outs_other p k es s e s' np had ov (quiet oe ne fit) r = outs_quiet p k es s e s' np had ov oe ne fit r
outs_other p k es s e s' np had ov (barrier pe ne oe lim) r = outs_barrier p k es s e s' np had ov pe ne oe lim r
outs_other p k es s e s' np had ov (last pe ne oe) r = outs_last p k es s e s' np had ov pe ne oe r

outs_step : (p : PlanData) (k : AbstractTask) (start : State) (es : List Event) (s : State) (e : Event) (s' : State) → Sound p k start → (k.role ≡ Source → Reading k s) → (is_source k.role ≡ false → Ins k es s) → LocalStep p k s e s' → Outs p k es s → Outs p k (e ∷ es) s'
outs_step p k start es s e s' so rd inp st r = elim (step_sent p k start es s e s' so rd inp st) [
  | inr c ↦ outs_other p k es s e s' c.other c.had c.going c.sends r
  | inl y ↦
      let x = put_is p k s e s' st y in
      subst (Outs p k (e ∷ es)) (sym x.5) (subst (λ z. Outs p k (z ∷ es) (record s { pending = x.2 })) (sym x.3) (outs_put p k es s x.0 x.1 x.2 x.4 r))
]

outs_fresh : (p : PlanData) (k : AbstractTask) (s : State) → IsFresh k s → Outs p k [] s
outs_fresh p k s f =
    let same : (j : ℕ) → [] ≡ given j [] s = λ j. ap (λ q. onto (only j q) []) (sym f.pending) in
    record {
      within = subst (AllByRecursion (λ x. x.0 < k.outputs)) (sym f.pending) tt;
      phase = subst IsPhase (sym f.pending) (inl tt);
      limit = (let n = f.next in omega (arith, n));
      gives = λ j l. subst (AllByRecursion (Gives p k.role)) (same j) tt;
      numbered = λ j l. subst (Numbered k.first) (same j) tt;
      passes = λ j l. ap passed (sym (same j)) ∙ sym f.next;
      going = λ o j l. ap (has_ended k) (sym (same j));
      closed = λ o. absurd (false≢true (sym f.over ∙ o));
    }

pub outs : (p : PlanData) (k : AbstractTask) (start : State) → Sound p k start → {es : List Event} {s : State} → Run p k start es s → Outs p k es s
outs p k start so none = outs_fresh p k start so.fresh
outs p k start so (more {es = es} {s = s} {e = e} {s' = s'} run st) =
    outs_step p k start es s e s' so (λ a. reading p k start (so.limits a) (so.begins a) run) (λ a. ins p k start a (so.some a) so.fresh run) st (outs p k start so run)
