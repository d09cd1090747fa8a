-- A history cut at a barrier is a drained one.
use Rattle.std.proofs.Common.{◌≡◌, ℕ, suc, ◌+◌, ◌<◌, ◌≤◌, List, [], ◌∷◌, ◌++◌, true, false, eqb, length, get_or, set, take, refl, sym, ap, subst, ◌∙◌, inl, inr, arith, append_assoc, append-nil, if◌then◌else◌}
use Rattle.std.proofs.lemmas.List.{get_or_append_left}
use Rattle.std.proofs.Math.Seq.{get_or-append_seam, take-append_seam}
use Rattle.std.proofs.lemmas.Bool.{cases_eq, cases_Bool, cases_lt, eq-eqb, ne_eqb, false≢true, and_right}
use Rattle.std.specs.List.{filter}
use Rattle.std.specs.FinMap.{get}
use Rattle.plan_model.specs.declared.spec.Row.{Row}
use Rattle.plan_model.specs.PlanData.{PlanData}
use Rattle.plan_model.specs.Rows.{row_is_at}
use Rattle.input_state.specs.declared.inputs.Shut.{Shut}
use Rattle.input_state.specs.declared.inputs.Shut.TheVariants.{Held, Ended}
use Rattle.input_state.specs.Inputs.{shut_at, all_shut, any_held}
use Rattle.dataflow_model.specs.declared.message.Message.{Message}
use Rattle.dataflow_model.specs.declared.message.Message.TheVariants.{Barrier, End}
use Rattle.dataflow_model.specs.declared.role.Role.TheVariants.{Source}
use Rattle.dataflow_model.specs.Ending.{may_stop}
use Rattle.dataflow_model.specs.Role.{is_source}
use Rattle.dataflow_model.specs.AbstractTask.{AbstractTask}
use Rattle.dataflow_model.specs.AbstractLayout.{AbstractLayout, IsLayout}
use Rattle.dataflow_model.specs.State.{State, Kept, kept_of, kept_at}
use Rattle.dataflow_model.specs.Steps.{Event, Open, Read, Save, Stop, Close, Take, Put, LocalStep, is_last, past_barrier}
use Rattle.dataflow_model.specs.Steps.LocalStep.{put, opens, reads, saves, stops, closes, chain_rows, chain_mark, window_rows, window_mark, sink_rows, sink_mark, holds, aligns, ends, ends_all, ends_aligned}
use Rattle.dataflow_model.specs.Runs.{Run, taken, sent, only, onto, given}
use Rattle.dataflow_model.specs.Runs.Run.{none, more}
use Rattle.dataflow_model.specs.Opening.{IsOpening}
use Rattle.dataflow_model.specs.Start.{AreOpenings}
use Rattle.dataflow_model.specs.OneLeg.{IsOneLeg}
use Rattle.dataflow_model.specs.History.{History}
use Rattle.dataflow_model.specs.Flow.{Flow, IsDrained}
use Rattle.dataflow_model.specs.Cuts.{cut_of, save_cut}
use Rattle.dataflow_model.proofs.Facts.{given_put, onto_ahead, no_source, not_a_source, all_shut_at, stops_last}
use Rattle.dataflow_laws.specs.Savepoints.{SavepointIsExact}
use Rattle.dataflow_laws.specs.Laws.{IsExact}
use Rattle.dataflow_laws.proofs.Ends.{ended, Closed, HasEnds, IsIdle, has_ends, not_over, aligned_by}
use Rattle.dataflow_laws.proofs.Cuts.{Waits, Marks, Passes, marks_by, marks_barrier, end_now, passed_given, waits_step, waits_fresh, shut_closed}
use Rattle.dataflow_laws.proofs.Openings.{opened_as}
use Rattle.dataflow_laws.proofs.Complete.{flow_of, ended_append, idle_of, ring_bound}
use Rattle.dataflow_laws.proofs.SameCuts.{AreSameCuts, same_merged}
use Rattle.dataflow_laws.proofs.Exact.{drained_is_exact, exact_there}

-- ---- a task's steps up to its alignment on barrier m

record IsCut (k : AbstractTask) (m : ℕ) (es : List Event) (s : State) (steps : List Event) (state : State) : Type 0 where
  took : (i : ℕ) → (x : List Message) × (taken i es ≡ x ++ taken i steps)
  gave : (j : ℕ) → (x : List Message) × (given j es s ≡ x ++ given j steps state)
  took_last : is_source k.role ≡ false → (i : ℕ) → i < k.inputs → Closed (k.first + m) (taken i steps)
  gave_last : (j : ℕ) → j < k.outputs → Closed (k.first + m) (given j steps state)
  source : k.role ≡ Source → (state.opened ≡ true) × (m < k.saves → (q : ℕ) → q < k.inputs → get_or state.offsets q 0 ≡ k.limit m q)
  kept : m < k.saves → (d : Kept) → get_or s.kept m d ≡ kept_of state
  rows : (x : List Row) × (s.rows ≡ state.rows ++ x)

record CutAt (p : PlanData) (k : AbstractTask) (from : State) (m : ℕ) (es : List Event) (s : State) : Type 0 where
  steps : List Event
  state : State
  run : Run p k from steps state
  is : IsCut k m es s steps state

abbrev Cuts : PlanData → AbstractTask → State → List Event → State → Type 0
Cuts p k from es s = (m : ℕ) → m < s.next → CutAt p k from m es s

taken_grows : (i : ℕ) (e : Event) (es : List Event) → (x : List Message) × (taken i (e ∷ es) ≡ x ++ taken i es)
taken_grows i Open es = ([], refl)
taken_grows i (Read n) es = ([], refl)
taken_grows i Save es = ([], refl)
taken_grows i Stop es = ([], refl)
taken_grows i Close es = ([], refl)
taken_grows i (Put j m) es = ([], refl)
taken_grows i (Take j m) es = elim (cases_Bool (eqb i j)) [ inl e ↦ (m ∷ [], rw e refl) | inr e ↦ ([], rw e refl) ]

-- a step on, a cut is still there
cut_on : (p : PlanData) (k : AbstractTask) (from : State) (m : ℕ) (es : List Event) (s : State) (e : Event) (s' : State) → ((j : ℕ) → (x : List Message) × (given j (e ∷ es) s' ≡ x ++ given j es s)) → ((d : Kept) → get_or s'.kept m d ≡ get_or s.kept m d) → (x : List Row) → s'.rows ≡ s.rows ++ x → CutAt p k from m es s → CutAt p k from m (e ∷ es) s'
cut_on p k from m es s e s' grows keeps x rx c =
    record {
      steps = c.steps;
      state = c.state;
      run = c.run;
      is = record {
        took = λ i. let a = taken_grows i e es in let d = c.is.took i in (a.0 ++ d.0, a.1 ∙ ap (λ z. a.0 ++ z) d.1 ∙ sym (append_assoc a.0 d.0 (taken i c.steps)));
        gave = λ j. let a = grows j in let d = c.is.gave j in (a.0 ++ d.0, a.1 ∙ ap (λ z. a.0 ++ z) d.1 ∙ sym (append_assoc a.0 d.0 (given j c.steps c.state)));
        took_last = c.is.took_last;
        gave_last = c.is.gave_last;
        source = c.is.source;
        kept = λ l d. keeps d ∙ c.is.kept l d;
        rows = let a = c.is.rows in (a.0 ++ x, rx ∙ ap (λ z. z ++ x) a.1 ∙ append_assoc c.state.rows a.0 x);
      };
    }

-- a step with nothing pending only adds to what is given
act_grows : (es : List Event) (s : State) (e : Event) (s' : State) → s.pending ≡ [] → ((j : ℕ) → sent j (e ∷ es) ≡ sent j es) → (j : ℕ) → (x : List Message) × (given j (e ∷ es) s' ≡ x ++ given j es s)
act_grows es s e s' idle un j =
    let a = onto_ahead (only j s'.pending) (sent j (e ∷ es)) in
    (a.0, a.1 ∙ ap (λ z. a.0 ++ z) (un j ∙ ap (λ q. onto (only j q) (sent j es)) (sym idle)))

put_grows : (es : List Event) (s : State) (i : ℕ) (m : Message) (rest : List (ℕ × Message)) → s.pending ≡ (i, m) ∷ rest → (j : ℕ) → (x : List Message) × (given j (Put i m ∷ es) (record s { pending = rest }) ≡ x ++ given j es s)
put_grows es s i m rest e j = ([], given_put j i m rest (sent j es) ∙ ap (λ p. onto (only j p) (sent j es)) (sym e))

no_rows : (rows : List Row) → rows ≡ rows ++ []
no_rows rows = sym (append-nil rows)

-- a step that counts no barrier and collects no rows
cuts_same : (p : PlanData) (k : AbstractTask) (from : State) (es : List Event) (s : State) (e : Event) (s' : State) → s.pending ≡ [] → ((j : ℕ) → sent j (e ∷ es) ≡ sent j es) → s'.next ≡ s.next → s'.kept ≡ s.kept → s'.rows ≡ s.rows → Cuts p k from es s → Cuts p k from (e ∷ es) s'
cuts_same p k from es s e s' idle un ne ke re c m l =
    cut_on p k from m es s e s' (act_grows es s e s' idle un) (λ d. ap (λ x. get_or x m d) ke) [] (re ∙ no_rows s.rows) (c m (subst (λ n. m < n) ne l))

-- the cut at a barrier that goes out now
cut_here : (p : PlanData) (k : AbstractTask) (from : State) (es : List Event) (s : State) (e : Event) (s' : State) → Passes k es s e s' → Waits k es s → Run p k from (e ∷ es) s'
    → (is_source k.role ≡ false → (i : ℕ) → i < k.inputs → Closed (k.first + s.next) (taken i (e ∷ es)))
    → (k.role ≡ Source → (s'.opened ≡ true) × (s.next < k.saves → (q : ℕ) → q < k.inputs → get_or s'.offsets q 0 ≡ k.limit s.next q))
    → (s.next < k.saves → (d : Kept) → get_or s'.kept s.next d ≡ kept_of s') → CutAt p k from s.next (e ∷ es) s'
cut_here p k from es s e s' b r run took source kept =
    record {
      steps = e ∷ es;
      state = s';
      run = run;
      is = record {
        took = λ i. ([], refl);
        gave = λ j. ([], refl);
        took_last = took;
        gave_last = λ j l. record { last = Barrier (k.first + s.next); before = given j es s; is = passed_given k es s e s' b j l; is_end = eq-eqb (k.first + s.next) (k.first + s.next) refl; first = r.outputs b.going j l s.next (omega arith) };
        source = source;
        kept = kept;
        rows = ([], no_rows s'.rows);
      };
    }

-- cuts after a step that counts a barrier
cuts_next : (p : PlanData) (k : AbstractTask) (from : State) (es : List Event) (s : State) (e : Event) (s' : State) → Passes k es s e s' → s'.rows ≡ s.rows → ((m : ℕ) → m < s.next → (d : Kept) → get_or s'.kept m d ≡ get_or s.kept m d) → CutAt p k from s.next (e ∷ es) s' → Cuts p k from es s → Cuts p k from (e ∷ es) s'
cuts_next p k from es s e s' b re keeps here c m l =
    elim (cases_eq m s.next) [
      | inl q ↦ subst (λ x. CutAt p k from x (e ∷ es) s') (sym q) here
      | inr q ↦ (let l' : m < s.next = (let n = b.next in omega arith) in cut_on p k from m es s e s' (act_grows es s e s' b.idle b.unsent) (keeps m l') [] (re ∙ no_rows s.rows) (c m l'))
    ]

goes_on : (k : AbstractTask) (n : ℕ) → n < k.saves → is_last k n ≡ false
goes_on k n l = and_right (may_stop k.ending) (eqb n k.saves) (ne_eqb n k.saves (λ e. absurd (omega arith)))

kept_last : (kept : List Kept) (x : Kept) (n : ℕ) (d : Kept) → length kept ≡ n → get_or (kept ++ x ∷ []) n d ≡ x
kept_last kept x n d e = ap (λ i. get_or (kept ++ x ∷ []) i d) (sym e) ∙ get_or-append_seam kept x [] d

kept_before : (kept : List Kept) (x : Kept) (n m : ℕ) (d : Kept) → length kept ≡ n → m < n → get_or (kept ++ x ∷ []) m d ≡ get_or kept m d
kept_before kept x n m d e l = get_or_append_left kept (x ∷ []) d m (omega arith)

cuts_past : (p : PlanData) (k : AbstractTask) (from : State) (es : List Event) (s : State) (i : ℕ) (m : Message) (shut : List Shut) → is_source k.role ≡ false → s.over ≡ false → s.pending ≡ [] → all_shut shut ≡ true → Marks k es s i m shut → Waits k es s → Run p k from (Take i m ∷ es) (past_barrier k s shut) → Cuts p k from es s → Cuts p k from (Take i m ∷ es) (past_barrier k s shut)
cuts_past p k from es s i m shut ns ov idle all by r run c =
    let new : State = past_barrier k s shut in
    let b : Passes k es s (Take i m) new = record { idle = idle; going = ov; unsent = λ j. refl; puts = refl; next = refl } in
    let keeps : (x : ℕ) → x < s.next → (d : Kept) → get_or new.kept x d ≡ get_or s.kept x d = λ x l d. elim (cases_Bool (is_last k s.next)) [
      | inl e ↦ ap (λ t. get_or (if t then s.kept else (s.kept ++ kept_of s ∷ [])) x d) e
      | inr e ↦ ap (λ t. get_or (if t then s.kept else (s.kept ++ kept_of s ∷ [])) x d) e ∙ kept_before s.kept (kept_of s) s.next x d (r.kept ov) l
    ] in
    cuts_next p k from es s (Take i m) new b refl keeps
    (cut_here p k from es s (Take i m) new b r run
    (λ n x xl. shut_closed k.first (shut_at shut x) s.next (taken x (Take i m ∷ es)) (all_shut_at shut x all) (by.waits x xl))
    (λ a. absurd (no_source k ns a))
    (λ l d. ap (λ t. get_or (if t then s.kept else (s.kept ++ kept_of s ∷ [])) s.next d) (goes_on k s.next l) ∙ kept_last s.kept (kept_of s) s.next d (r.kept ov))) c

cuts_step : (p : PlanData) (k : AbstractTask) (from : State) (es : List Event) (s : State) (e : Event) (s' : State) → LocalStep p k s e s' → Run p k from (e ∷ es) s' → HasEnds k es s → Waits k es s → Cuts p k from es s → Cuts p k from (e ∷ es) s'
cuts_step p k from es s e s' (put {j = i} {m = m} {rest = rest} is) run he r c = λ n l. cut_on p k from n es s e s' (put_grows es s i m rest is) (λ d. refl) [] (no_rows s.rows) (c n l)
cuts_step p k from es s e s' (opens can) run he r c = cuts_same p k from es s e s' can.idle (λ j. refl) refl refl refl c
cuts_step p k from es s e s' (reads own) run he r c = cuts_same p k from es s e s' own.can.can.idle (λ j. refl) refl refl refl c
cuts_step p k from es s e s' (saves can may) run he r c =
    let b : Passes k es s e s' = record { idle = can.idle; going = can.going; unsent = λ j. refl; puts = refl; next = refl } in
    cuts_next p k from es s e s' b refl (λ m l d. kept_before s.kept (kept_of s) s.next m d (r.kept can.going) l)
    (cut_here p k from es s e s' b r run (λ n. absurd (no_source k n can.source)) (λ a. (can.opened, λ l. may.1)) (λ l d. kept_last s.kept (kept_of s) s.next d (r.kept can.going))) c
cuts_step p k from es s e s' (stops can may) run he r c =
    let b : Passes k es s e s' = record { idle = can.idle; going = can.going; unsent = λ j. refl; puts = refl; next = refl } in
    let here = stops_last k.ending k s may in
    cuts_next p k from es s e s' b refl (λ m l d. refl)
    (cut_here p k from es s e s' b r run (λ n. absurd (no_source k n can.source)) (λ a. (can.opened, λ l. absurd (omega arith))) (λ l. absurd (omega arith))) c
cuts_step p k from es s e s' (closes can may) run he r c = cuts_same p k from es s e s' can.idle (λ j. refl) refl refl refl c
cuts_step p k from es s e s' (chain_rows a takes) run he r c = cuts_same p k from es s e s' takes.can.idle (λ j. refl) refl refl refl c
cuts_step p k from es s e s' (chain_mark a takes) run he r c = cuts_same p k from es s e s' takes.can.idle (λ j. refl) refl refl refl c
cuts_step p k from es s e s' (window_rows a takes added) run he r c = cuts_same p k from es s e s' takes.can.idle (λ j. refl) refl refl refl c
cuts_step p k from es s e s' (window_mark rows a takes fires) run he r c = cuts_same p k from es s e s' takes.can.idle (λ j. refl) refl refl refl c
cuts_step p k from es s e s' (sink_rows {rows = rows} a takes) run he r c = λ n l. cut_on p k from n es s e s' (act_grows es s e s' takes.can.idle (λ j. refl)) (λ d. refl) rows refl (c n l)
cuts_step p k from es s e s' (sink_mark a takes) run he r c = cuts_same p k from es s e s' takes.can.idle (λ j. refl) refl refl refl c
cuts_step p k from es s e s' (holds takes is) run he r c = cuts_same p k from es s e s' takes.can.idle (λ j. refl) refl refl refl c
cuts_step p k from es s e s' (ends takes is) run he r c = cuts_same p k from es s e s' takes.can.idle (λ j. refl) refl refl refl c
cuts_step p k from es s e s' (ends_all takes is) run he r c = cuts_same p k from es s e s' takes.can.idle (λ j. refl) refl refl refl c
cuts_step p k from es s e s' (aligns {i = i} {n = n} takes is) run he r c =
    let ov = not_over k es s i takes.can.taker takes.can.free he in
    cuts_past p k from es s i (Barrier n) (set s.inputs.shut i Held) takes.can.taker ov takes.can.idle (aligned_by (all_shut (set s.inputs.shut i Held)) (any_held (set s.inputs.shut i Held)) is).0 (marks_barrier k es s i n takes.admitted.0 takes.can.taker ov takes.can.input takes.can.free he r) r run c
cuts_step p k from es s e s' (ends_aligned {i = i} takes is) run he r c =
    let ov = not_over k es s i takes.can.taker takes.can.free he in
    cuts_past p k from es s i End (set s.inputs.shut i Ended) takes.can.taker ov takes.can.idle (aligned_by (all_shut (set s.inputs.shut i Ended)) (any_held (set s.inputs.shut i Ended)) is).0 (marks_by k es s i End Ended (end_now k.first s.next) takes.can.taker ov takes.can.input takes.can.free he r) r run c

-- what a task's steps have, and their cuts
record HasCuts (p : PlanData) (k : AbstractTask) (from : State) (es : List Event) (s : State) : Type 0 where
  waits : Waits k es s
  cuts : Cuts p k from es s

has_cuts : (p : PlanData) (k : AbstractTask) (from : State) → IsIdle k from → from.next ≡ 0 → from.kept ≡ [] → {es : List Event} {s : State} → Run p k from es s → HasCuts p k from es s
has_cuts p k from f fn fk none = record { waits = waits_fresh k from f fn fk; cuts = λ m l. absurd (omega arith) }
has_cuts p k from f fn fk (more {es = es} {s = s} {e = e} {s' = s'} run st) =
    let r = has_cuts p k from f fn fk run in
    let he = has_ends p k from f run in
    record { waits = waits_step p k es s e s' st he r.waits; cuts = cuts_step p k from es s e s' st (more run st) he r.waits r.cuts }

cuts_exist : (p : PlanData) (k : AbstractTask) (from : State) (m : ℕ) (es : List Event) (s : State) → IsOpening p k.role k from → Run p k from es s → m < s.next → CutAt p k from m es s
cuts_exist p k from m es s o run l =
    let a = opened_as p k.role k from o in
    (has_cuts p k from (idle_of p k.role k from o) (ap (λ s. s.next) a.is) (ap (λ s. s.kept) a.is) run).cuts m l

-- ---- all tasks cut at one barrier

has_last : (n : ℕ) (log : List Message) → Closed n log → ended n log ≡ true
has_last n log c = ap (ended n) c.is ∙ (let e = c.is_end in rw e refl)

-- two ends of one log that begin with the one last message are one
same_end : (n : ℕ) (xs ys a c : List Message) → xs ++ a ≡ ys ++ c → Closed n a → Closed n c → a ≡ c
same_end n [] [] a c e x y = e
same_end n [] (y' ∷ ys) a c e x y =
    let d : x.last ∷ x.before ≡ y' ∷ (ys ++ c) = sym x.is ∙ e in
    let d' : x.before ≡ ys ++ c = cc in
    absurd (false≢true (sym x.first ∙ ap (ended n) d' ∙ ended_append n ys c (has_last n c y)))
same_end n (x' ∷ xs) [] a c e x y =
    let d : y.last ∷ y.before ≡ x' ∷ (xs ++ a) = sym y.is ∙ sym e in
    let d' : y.before ≡ xs ++ a = cc in
    absurd (false≢true (sym y.first ∙ ap (ended n) d' ∙ ended_append n xs a (has_last n a x)))
same_end n (x' ∷ xs) (y' ∷ ys) a c e x y = let d : xs ++ a ≡ ys ++ c = cc in same_end n xs ys a c d x y

-- a task's part of the cut; past the sink there is none
record Part (p : PlanData) (l : AbstractLayout) (start : ℕ → State) (h : History p l start) (m t : ℕ) : Type 0 where
  steps : List Event
  state : State
  run : Run p (l.task t) (start t) steps state
  is : t ≤ l.sink → IsCut (l.task t) m (h.steps t) (h.end t) steps state

module _ (p : PlanData) (l : AbstractLayout) (ok : IsLayout l) (start : ℕ → State) (leg : IsOneLeg l start) (opens : AreOpenings p l start) (h : History p l start) (m : ℕ) (passed : (t : ℕ) → t ≤ l.sink → m < (h.end t).next) where
  part : (t : ℕ) → Part p l start h m t
  part t = elim (cases_lt t (suc l.sink)) [
    | inl a ↦ (let c = cuts_exist p (l.task t) (start t) m (h.steps t) (h.end t) (opens t (omega arith)) (h.run t) (passed t (omega arith)) in record { steps = c.steps; state = c.state; run = c.run; is = λ le. c.is })
    | inr a ↦ record { steps = []; state = start t; run = none; is = λ le. absurd (omega arith) }
  ]

  rings : (s t : ℕ) → l.ring s t ≡ true → given (l.out_at s t) (part s).steps (part s).state ≡ taken (l.in_at s t) (part t).steps
  rings s t r =
      let j = l.out_at s t in
      let i = l.in_at s t in
      let bd = ring_bound l ok s t r in
      let ps : IsCut (l.task s) m (h.steps s) (h.end s) (part s).steps (part s).state = (part s).is bd.0 in
      let pt : IsCut (l.task t) m (h.steps t) (h.end t) (part t).steps (part t).state = (part t).is bd.1 in
      let ns = not_a_source (l.task t).role (λ a. false≢true (sym (ok.no_ring_in s t a) ∙ r)) in
      let ahead = (flow_of h).ahead s t r in
      let gv = ps.gave j in
      let tk = pt.took i in
      let e : gv.0 ++ given j (part s).steps (part s).state ≡ (ahead.0 ++ tk.0) ++ taken i (part t).steps =
      sym gv.1 ∙ ahead.1 ∙ ap (λ z. ahead.0 ++ z) tk.1 ∙ sym (append_assoc ahead.0 tk.0 (taken i (part t).steps)) in
      let same : (l.task t).first ≡ (l.task s).first = (leg.alike t bd.1).0 ∙ sym (leg.alike s bd.0).0 in
      same_end ((l.task s).first + m) gv.0 (ahead.0 ++ tk.0) (given j (part s).steps (part s).state) (taken i (part t).steps) e (ps.gave_last j (ok.ring_out s t r).0)
      (subst (λ n. Closed (n + m) (taken i (part t).steps)) same (pt.took_last ns i (ok.ring_in s t r).0))

  pub cut_flow : Flow p l start
  cut_flow = record {
    steps = λ t. (part t).steps;
    end = λ t. (part t).state;
    run = λ t. (part t).run;
    ahead = λ s t r. ([], rings s t r);
  }

  pub cut_drained : IsDrained cut_flow
  unfolding cut_flow
  cut_drained = record { rings = rings; opened = λ t b a. (((part t).is (let w = ok.some_windows in omega arith)).source a).0 }

  -- at the barrier of a savepoint on the way, each source has come to its cut, and each task keeps what it has
  pub cut_reads : m < (l.task l.sink).saves → AreSameCuts l (cut_of cut_flow.end) (save_cut l m)
  unfolding cut_flow
  cut_reads few t q b a k =
      let some = ok.some_windows in
      let le : t ≤ l.sink = omega arith in
      (((part t).is le).source a).1 (subst (λ n. m < n) (sym (leg.alike t le).1) few) q k

  pub cut_kept : m < (l.task l.sink).saves → (t : ℕ) → t ≤ l.sink → kept_at m (h.end t) ≡ kept_of (cut_flow.end t)
  unfolding cut_flow
  cut_kept few t le = ((part t).is le).kept (subst (λ n. m < n) (sym (leg.alike t le).1) few) (kept_of (h.end t))

pub savepoint_is_exact : SavepointIsExact
unfolding cut_flow
savepoint_is_exact p l start w v m ok orderly leg st h few passed mg =
    let f : Flow p l start = cut_flow p l ok start leg st.opens h m passed in
    let dry : IsDrained f = cut_drained p l ok start leg st.opens h m passed in
    let some = ok.some_windows in
    let same : AreSameCuts l (cut_of f.end) (save_cut l m) = cut_reads p l ok start leg st.opens h m passed few in
    let x : IsExact p l w v (save_cut l m) f.end = exact_there p l w v (cut_of f.end) (save_cut l m) f.end same
    (drained_is_exact p l start w v ok orderly leg st f dry (same_merged l (save_cut l m) (cut_of f.end) v (λ t q b a k. sym (same t q b a k)) mg)) in
    let kept : (t : ℕ) → t ≤ l.sink → kept_at m (h.end t) ≡ kept_of (f.end t) = cut_kept p l ok start leg st.opens h m passed few in
    let all : (y : List Row) × ((h.end l.sink).rows ≡ (f.end l.sink).rows ++ y) = ((part p l ok start leg st.opens h m passed l.sink).is (omega arith)).rows in
    let had : take (kept_at m (h.end l.sink)).rows (h.end l.sink).rows ≡ (f.end l.sink).rows =
    (λ j. take (kept l.sink (omega arith) j).rows (all.1 j)) ∙ take-append_seam (f.end l.sink).rows all.0 in
    record {
      offsets = λ t q b a k. let le : t ≤ l.sink = omega arith in ap (λ z. get_or z.offsets q 0) (kept t le) ∙ same t q b a k;
      marks = λ t q d b a k. ap (λ z. get_or z.marks q d) (kept t (omega arith)) ∙ x.marks t q d b a k;
      rows = λ q. ap (filter (row_is_at q)) had ∙ x.rows q;
      windows = λ u b c q. ap (λ z. get z.windows q) (kept u (omega arith)) ∙ x.windows u b c q;
    }
