-- A world that is not finished has a move.
use Rattle.std.proofs.Common.{◌≡◌, ℕ, suc, ◌+◌, ◌<◌, ◌≤◌, List, [], ◌∷◌, ◌++◌, Bool, true, false, eqb, ◌&&◌, ◌||◌, not, length, get_or, refl, sym, ap, subst, ◌∙◌, ◌⊎◌, inl, inr, arith, append_assoc}
use Rattle.std.specs.List.{AllByRecursion}
use Rattle.std.proofs.lemmas.Bool.{cases_eq, cases_Bool, cases_lt, eq-eqb, eqb-true, and_from, and_parts, or_left, or_right, false≢true}
use Rattle.plan_model.specs.PlanData.{PlanData}
use Rattle.input_state.specs.declared.inputs.Shut.{Shut}
use Rattle.input_state.specs.declared.inputs.Shut.TheVariants.{Free, Held, Ended}
use Rattle.input_state.specs.Inputs.{is_free, shut_at}
use Rattle.dataflow_model.specs.declared.message.Message.{Message}
use Rattle.dataflow_model.specs.declared.role.Role.TheVariants.{Source}
use Rattle.dataflow_model.specs.declared.ending.Ending.{Ending}
use Rattle.dataflow_model.specs.declared.ending.Ending.TheVariants.{AtEnd, AtCut, Asked}
use Rattle.dataflow_model.specs.Role.{is_source}
use Rattle.dataflow_model.specs.Ending.{may_stop}
use Rattle.dataflow_model.specs.AbstractTask.{AbstractTask}
use Rattle.dataflow_model.specs.AbstractLayout.{AbstractLayout, IsLayout}
use Rattle.dataflow_model.specs.State.{State}
use Rattle.dataflow_model.specs.Steps.{Event, Open, Read, Save, Stop, Close, Take, Put, CanTake, CanRun, MayStop, MayClose, IsAtLimit}
use Rattle.dataflow_model.specs.Runs.{taken, sent, only, onto, given}
use Rattle.dataflow_model.proofs.Facts.{onto_ahead, no_source, source_yes}
use Rattle.dataflow_laws.specs.Needs.{Needs}
use Rattle.dataflow_laws.specs.World.{World, IsEnd, IsInner}
use Rattle.dataflow_laws.specs.World.Move.{inner, takes, puts}
use Rattle.dataflow_model.specs.Start.{IsLegStart}
use Rattle.dataflow_laws.specs.Admission.{IsAdmittedInput}
use Rattle.dataflow_laws.specs.Progress.{HasMove, Progress}
use Rattle.dataflow_laws.proofs.Needs.{needs_step}
use Rattle.dataflow_laws.proofs.Marks.{passed, passed_append, ended, ended_append, not_closed, Closed, IsPhase, turn, turn_le, turn_sent, turn_first}
use Rattle.dataflow_laws.proofs.Aligning.{last_of, has_ended, some_free, InputIs}
use Rattle.dataflow_laws.proofs.Admission.{steps, outs_of, ins_of, reading_of, same_first, same_saves, same_stop, ring_ends, takes_in, admitted}
use Rattle.dataflow_laws.proofs.Searching.{least, Top, top, Bottom, bottom, some_left}

-- the oldest message of a ring
record Last (xs : List Message) : Type 0 where
  front : List Message
  last : Message
  is : xs ≡ front ++ last ∷ []

last_of_all : (x : Message) (xs : List Message) → Last (x ∷ xs)
last_of_all x [] = record { front = []; last = x; is = refl }
last_of_all x (y ∷ ys) = let r = last_of_all y ys in record { front = x ∷ r.front; last = r.last; is = ap (λ z. x ∷ z) r.is }

last_or : (xs : List Message) → (xs ≡ []) ⊎ Last xs
last_or [] = inl refl
last_or (x ∷ xs) = inr (last_of_all x xs)

no_messages : (xs : List Message) → xs ≡ [] → 0 < length xs → ⊥
no_messages xs e l = let z = ap length e in omega (arith, z, l)

abbrev has_pending : List (ℕ × Message) → Bool
has_pending [] = false
has_pending (x ∷ ps) = true

pending_or : (ps : List (ℕ × Message)) → (ps ≡ []) ⊎ ((x : ℕ × Message) × (rest : List (ℕ × Message)) × (ps ≡ x ∷ rest))
pending_or [] = inl refl
pending_or (x ∷ ps) = inr (x, ps, refl)

-- a task that has something to do, and how many barriers it has put on each output at least
abbrev busy : State → Bool
busy s = has_pending s.pending || not s.over

abbrev put_by : State → ℕ
put_by s = turn s.pending s.next

shut_or : (v : Shut) → (v ≡ Free) ⊎ ((v ≡ Held) ⊎ (v ≡ Ended))
shut_or Free = inl refl
shut_or Held = inr (inl refl)
shut_or Ended = inr (inr refl)

stops_or_closes : (k : AbstractTask) (s : State) (d : Ending) → k.ending ≡ d → s.next ≡ k.saves → IsAtLimit k s → MayStop k.ending k s ⊎ MayClose k.ending k s
stops_or_closes k s AtEnd e n limit = inr (subst (λ x. MayClose x k s) (sym e) (n, limit))
stops_or_closes k s AtCut e n limit = inl (subst (λ x. MayStop x k s) (sym e) (n, limit))
stops_or_closes k s Asked e n limit = inl (subst (λ x. MayStop x k s) (sym e) n)

module _ (p : PlanData) (l : AbstractLayout) (capacity : ℕ) (start : ℕ → State) (w : World) (ok : IsLayout l) (b : IsLegStart p l start) (input : IsAdmittedInput p l) (r : IsEnd p l start w) where
  abbrev log_in : ℕ → ℕ → List Message
  log_in s t = taken (l.in_at s t) ((steps p l start w ok b input r).steps t)

  abbrev log_out : ℕ → ℕ → List Message
  log_out s t = sent (l.out_at s t) ((steps p l start w ok b input r).steps s)

  abbrev made : (t : ℕ) (e : Event) → t ≤ l.sink → IsInner e → Needs p (l.task t) (w.tasks t) e → HasMove p l capacity w
  made t e m i n = let st = needs_step p (l.task t) (w.tasks t) e n in record { task = t; event = e; next = _; move = inner m i st.1 }

  -- a task takes from a ring that holds something, if its input is free and nothing is pending
  takes_from : (s t : ℕ) → l.ring s t ≡ true → (w.tasks t).pending ≡ [] → shut_at (w.tasks t).inputs.shut (l.in_at s t) ≡ Free → Last (w.rings s t) → HasMove p l capacity w
  takes_from s t rg idle free la =
      let en = ring_ends p l start w ok b input r s t rg in
      let ri = ok.ring_in s t rg in
      let can : CanTake (l.task t) (w.tasks t) (l.in_at s t) = record { taker = takes_in p l start w ok b input r s t rg; idle = idle; input = ri.0; free = ap is_free free } in
      let a = admitted p l start w ok b input r s t la.front la.last rg la.is can in
      let st = needs_step p (l.task t) (w.tasks t) (Take (l.in_at s t) la.last) (record { can = can; admitted = a }) in
      record { task = t; event = Take (l.in_at s t) la.last; next = _; move = takes en.1 la.front (ap (λ z. w.rings z t) ri.1 ∙ la.is) st.1 }

  -- what ends the one end of a ring ends the other
  ended_same : (s t : ℕ) (log : List Message) → l.ring s t ≡ true → has_ended (l.task t) log ≡ has_ended (l.task s) log
  ended_same s t log rg =
      let en = ring_ends p l start w ok b input r s t rg in
      let e = same_stop p l start w ok b input r t s en.1 en.0 in
      let f = same_first p l start w ok b input r t s en.1 en.0 in
      let g = same_saves p l start w ok b input r t s en.1 en.0 in
      λ i. ended (e i) (f i + g i) log

  -- no receiver has taken the end of a ring whose sender has more to put there
  not_ended : (s t : ℕ) (m : Message) (rest : List (ℕ × Message)) → l.ring s t ≡ true → (w.tasks s).pending ≡ (l.out_at s t, m) ∷ rest → has_ended (l.task t) (log_in s t) ≡ true → ⊥
  not_ended s t m rest rg is e =
      let en = ring_ends p l start w ok b input r s t rg in
      let j = l.out_at s t in
      let jl = (ok.ring_out s t rg).0 in
      let o = outs_of p l start w ok b input r s en.0 in
      let es : has_ended (l.task s) (log_out s t) ≡ true =
      ap (has_ended (l.task s)) ((steps p l start w ok b input r).rings s t rg) ∙ ended_append (may_stop (l.task s).ending) (last_of (l.task s)) (w.rings s t) (log_in s t) (sym (ended_same s t (log_in s t) rg) ∙ e) in
      let d = eq-eqb j j refl in
      let first : only j (w.tasks s).pending ≡ m ∷ only j rest = ap (only j) is ∙ (rw d refl) in
      let ah = onto_ahead (only j rest) (m ∷ log_out s t) in
      let gv : given j ((steps p l start w ok b input r).steps s) (w.tasks s) ≡ ah.0 ++ m ∷ log_out s t = ap (λ q. onto q (log_out s t)) first ∙ ah.1 in
      elim (cases_Bool (w.tasks s).over) [
        | inl ov ↦ not_closed (may_stop (l.task s).ending) (last_of (l.task s)) ah.0 m (log_out s t) es (subst (Closed (may_stop (l.task s).ending) (last_of (l.task s))) gv (o.closed ov j jl))
        | inr ov ↦ false≢true (sym (o.going ov j jl) ∙ ap (has_ended (l.task s)) (gv ∙ sym (append_assoc ah.0 (m ∷ []) (log_out s t))) ∙ ended_append (may_stop (l.task s).ending) (last_of (l.task s)) (ah.0 ++ m ∷ []) (log_out s t) es)
      ]

  -- among the busy tasks that have put the fewest barriers, the highest with something pending
  abbrev first_stage : ℕ → ℕ → Bool
  first_stage n u = busy (w.tasks u) && eqb (put_by (w.tasks u)) n

  abbrev sending : ℕ → ℕ → Bool
  sending n u = first_stage n u && has_pending (w.tasks u).pending

  abbrev Fewest : ℕ → Type 0
  Fewest n = (u : ℕ) → u < suc l.sink → busy (w.tasks u) ≡ true → n ≤ put_by (w.tasks u)

  -- a busy task with something pending that is not among them has put more
  put_more : (n u : ℕ) → u < suc l.sink → Fewest n → sending n u ≡ false → has_pending (w.tasks u).pending ≡ true → n < put_by (w.tasks u)
  put_more n u m few off h =
      let on : busy (w.tasks u) ≡ true = or_left (has_pending (w.tasks u).pending) (not (w.tasks u).over) h in
      let le = few u m on in
      elim (cases_eq (put_by (w.tasks u)) n) [
        | inr ne ↦ omega (arith, le, ne)
        | inl e ↦ absurd (false≢true (sym off ∙ and_from (first_stage n u) (has_pending (w.tasks u).pending) (and_from (busy (w.tasks u)) (eqb (put_by (w.tasks u)) n) on (eq-eqb (put_by (w.tasks u)) n e)) h))
      ]

  -- the receiver of a full ring
  receiver_moves : (n s v : ℕ) (m : Message) (rest : List (ℕ × Message)) → l.ring s v ≡ true → Fewest n → passed (log_out s v) ≡ n → (w.tasks s).pending ≡ (l.out_at s v, m) ∷ rest → sending n v ≡ false → Last (w.rings s v) → HasMove p l capacity w
  receiver_moves n s v m rest rg few sent_n is off la =
      let en = ring_ends p l start w ok b input r s v rg in
      let i = l.in_at s v in
      let ri = (ok.ring_in s v rg).0 in
      let inputs = (ins_of p l start w ok b input r v en.1 (takes_in p l start w ok b input r s v rg)).at i ri in
      let over = (w.tasks v).over in
      let next = (w.tasks v).next in
      let here : (z : Shut) → shut_at (w.tasks v).inputs.shut i ≡ z → InputIs (l.task v) over next z (log_in s v) = λ z e. subst (λ y. InputIs (l.task v) over next y (log_in s v)) e inputs in
      let ps = ap passed ((steps p l start w ok b input r).rings s v rg) ∙ passed_append (w.rings s v) (log_in s v) in
      let no_end : has_ended (l.task v) (log_in s v) ≡ true → ⊥ = not_ended s v m rest rg is in
      elim (pending_or (w.tasks v).pending) [
        | inr x ↦ absurd (
            let has : has_pending (w.tasks v).pending ≡ true = ap has_pending x.2 in
            let more = put_more n v (let z = en.1 in omega (arith, z)) few off has in
            let le = turn_le (w.tasks v).pending next in
            elim (shut_or (shut_at (w.tasks v).inputs.shut i)) [
              | inl e ↦ (let f = (here Free e).0 in omega (arith, f, more, le, ps, sent_n))
              | inr (inl e) ↦ elim (cases_Bool over) [
                | inl ov ↦ no_end ((here Held e).1 ov)
                | inr ov ↦ (let f = ((here Held e).0 ov).0 in omega (arith, f, more, le, ps, sent_n))
              ]
              | inr (inr e) ↦ no_end (here Ended e)
            ])
        | inl idle ↦ elim (shut_or (shut_at (w.tasks v).inputs.shut i)) [
          | inl e ↦ takes_from s v rg idle e la
          | inr (inl e) ↦ absurd (elim (cases_Bool over) [
            | inl ov ↦ no_end ((here Held e).1 ov)
            | inr ov ↦
                (let f = ((here Held e).0 ov).0 in
                let on : busy (w.tasks v) ≡ true = or_right (has_pending (w.tasks v).pending) (not over) (ap not ov) in
                let le = few v (let z = en.1 in omega (arith, z)) on in
                let same : put_by (w.tasks v) ≡ next = ap (λ q. turn q next) idle in
                omega (arith, f, le, same, ps, sent_n))
          ])
          | inr (inr e) ↦ absurd (no_end (here Ended e))
        ]
      ]

  pending_moves : (n : ℕ) → 0 < capacity → Fewest n → Top (sending n) (suc l.sink) → HasMove p l capacity w
  pending_moves n some few h =
      let s = h.at in
      let sm : s ≤ l.sink = (let z = h.below in omega (arith, z)) in
      let parts = and_parts (first_stage n s) (has_pending (w.tasks s).pending) h.is in
      let stage = eqb-true (put_by (w.tasks s)) n (and_parts (busy (w.tasks s)) (eqb (put_by (w.tasks s)) n) parts.0).1 in
      elim (pending_or (w.tasks s).pending) [
        | inl e ↦ absurd (false≢true (sym (ap has_pending e) ∙ parts.1))
        | inr x ↦
            (let j = x.0.0 in
            let m = x.0.1 in
            let o = outs_of p l start w ok b input r s sm in
            let jl : j < (l.task s).outputs = (subst (AllByRecursion (λ y. y.0 < (l.task s).outputs)) x.2 o.within).0 in
            let v = l.to s j in
            let out = ok.output s j jl in
            let fw = ok.forward s v out.0 in
            let vm = out.2 in
            elim (cases_lt (length (w.rings s v)) capacity) [
              | inl space ↦ (let st = needs_step p (l.task s) (w.tasks s) (Put j m) (x.1, x.2) in record { task = s; event = Put j m; next = _; move = puts sm space jl st.1 })
              | inr full ↦ elim (last_or (w.rings s v)) [
                | inl none ↦ absurd (no_messages (w.rings s v) none (omega (arith, full, some)))
                | inr la ↦
                    (let stays : (w.tasks s).pending ≡ (l.out_at s v, m) ∷ x.1 = x.2 ∙ ap (λ q. (q, m) ∷ x.1) (sym out.1) in
                    let first = turn_first (w.tasks s).next x.0 x.1 (sent j ((steps p l start w ok b input r).steps s)) (subst IsPhase x.2 o.phase)
                    (ap (λ q. passed (onto (only j q) (sent j ((steps p l start w ok b input r).steps s)))) (sym x.2) ∙ o.passes j jl) in
                    let here : passed (log_out s v) ≡ n = ap (λ q. passed (sent q ((steps p l start w ok b input r).steps s))) out.1 ∙ first ∙ ap (λ q. turn q (w.tasks s).next) (sym x.2) ∙ stage in
                    receiver_moves n s v m x.1 out.0 few here stays (h.above v fw (omega (arith, vm))) la)
              ]
            ])
      ]

  -- a source with nothing pending that is not over
  source_moves : (t : ℕ) → t ≤ l.sink → (l.task t).role ≡ Source → (w.tasks t).pending ≡ [] → (w.tasks t).over ≡ false → HasMove p l capacity w
  source_moves t m a idle going =
      let k = l.task t in
      let s = w.tasks t in
      let rd = reading_of p l start w ok b input r t m a in
      elim (cases_Bool s.opened) [
        | inr o ↦ made t Open m tt (record { source = a; idle = idle; shut = o })
        | inl o ↦
            (let can : CanRun k s = record { source = a; idle = idle; opened = o; going = going } in
            elim (some_left k.inputs (λ q. get_or s.offsets q 0) (k.limit s.next) (rd.within going)) [
              | inr y ↦ made t (Read (k.partition y.0)) m tt (y.0, record { number = refl; can = record { can = can; partition = y.1; rest = y.2 } })
              | inl limit ↦ elim (cases_lt s.next k.saves) [
                | inl lt ↦ made t Save m tt (can, (lt, limit))
                | inr ge ↦ elim (stops_or_closes k s k.ending refl (let z = rd.going going in omega (arith, z, ge)) limit) [
                  | inl may ↦ made t Stop m tt (can, may)
                  | inr may ↦ made t Close m tt (can, may)
                ]
              ]
            ])
      ]

  -- the sender of an empty ring, whose receiver has taken as many barriers as the busy tasks have put at least, and
  -- waits on
  empty_ring : (n s t : ℕ) → l.ring s t ≡ true → Fewest n → ((u : ℕ) → u < suc l.sink → sending n u ≡ false) → first_stage n s ≡ false → w.rings s t ≡ [] → passed (log_in s t) ≡ n → has_ended (l.task t) (log_in s t) ≡ false → ⊥
  empty_ring n s t rg few none off none_there ps open_yet =
      let en = ring_ends p l start w ok b input r s t rg in
      let j = l.out_at s t in
      let jl = (ok.ring_out s t rg).0 in
      let o = outs_of p l start w ok b input r s en.0 in
      let st = (steps p l start w ok b input r).steps s in
      let next = (w.tasks s).next in
      let all : log_out s t ≡ log_in s t = (steps p l start w ok b input r).rings s t rg ∙ ap (λ q. q ++ log_in s t) none_there in
      let sm : s < suc l.sink = (let z = en.0 in omega (arith, z)) in
      elim (pending_or (w.tasks s).pending) [
        | inr x ↦
            (let more = put_more n s sm few (none s sm) (ap has_pending x.2) in
            let le = turn_sent j next (w.tasks s).pending (log_out s t) o.phase (o.passes j jl) in
            let same = ap passed all in
            omega (arith, more, le, same, ps))
        | inl idle ↦
            (let gv : given j st (w.tasks s) ≡ log_in s t = ap (λ q. onto (only j q) (log_out s t)) idle ∙ all in
            elim (cases_Bool (w.tasks s).over) [
              | inl ov ↦
                  (let c = o.closed ov j jl in
                  let e = c.is_end in
                  let closed : has_ended (l.task s) (given j st (w.tasks s)) ≡ true = ap (has_ended (l.task s)) c.is ∙ (rw e refl) in
                  false≢true (sym open_yet ∙ ended_same s t (log_in s t) rg ∙ sym (ap (has_ended (l.task s)) gv) ∙ closed))
              | inr ov ↦
                  (let on : busy (w.tasks s) ≡ true = or_right (has_pending (w.tasks s).pending) (not (w.tasks s).over) (ap not ov) in
                  let nx : next ≡ n = sym (o.passes j jl) ∙ ap passed gv ∙ ps in
                  let same : put_by (w.tasks s) ≡ n = ap (λ q. turn q next) idle ∙ nx in
                  false≢true (sym off ∙ and_from (busy (w.tasks s)) (eqb (put_by (w.tasks s)) n) on (eq-eqb (put_by (w.tasks s)) n same)))
            ])
      ]

  -- those that have put the fewest barriers have nothing pending
  idle_moves : (n : ℕ) → Fewest n → ((u : ℕ) → u < suc l.sink → sending n u ≡ false) → Bottom (first_stage n) (suc l.sink) → HasMove p l capacity w
  idle_moves n few none h =
      let t = h.at in
      let tm : t ≤ l.sink = (let z = h.below in omega (arith, z)) in
      let parts = and_parts (busy (w.tasks t)) (eqb (put_by (w.tasks t)) n) h.is in
      let idle : (w.tasks t).pending ≡ [] = elim (pending_or (w.tasks t).pending) [
        | inl e ↦ e
        | inr x ↦ absurd (false≢true (sym (none t h.below) ∙ and_from (first_stage n t) (has_pending (w.tasks t).pending) h.is (ap has_pending x.2)))
      ] in
      let going : (w.tasks t).over ≡ false = elim (cases_Bool (w.tasks t).over) [
        | inr e ↦ e
        | inl e ↦ absurd (false≢true ((λ i. has_pending (sym idle i) || not (sym e i)) ∙ parts.0))
      ] in
      let next : (w.tasks t).next ≡ n = sym (ap (λ q. turn q (w.tasks t).next) idle) ∙ eqb-true (put_by (w.tasks t)) n parts.1 in
      elim (cases_Bool (is_source (l.task t).role)) [
        | inl q ↦ source_moves t tm (source_yes (l.task t).role q) idle going
        | inr q ↦
            (let ns = no_source (l.task t) q in
            let inp = ins_of p l start w ok b input r t tm q in
            let fr = some_free (w.tasks t).inputs.shut (sym inp.over_is ∙ going) in
            let il : fr.0 < (l.task t).inputs = (let n = inp.long in let z = fr.1 in omega (arith, n, z)) in
            let ring = ok.input t fr.0 ns il in
            let s = l.from t fr.0 in
            let rg = ring.0 in
            let fw = ok.forward s t rg in
            let free : shut_at (w.tasks t).inputs.shut (l.in_at s t) ≡ Free = ap (shut_at (w.tasks t).inputs.shut) ring.1 ∙ fr.2 in
            let here : InputIs (l.task t) (w.tasks t).over (w.tasks t).next Free (log_in s t) = subst (λ z. InputIs (l.task t) (w.tasks t).over (w.tasks t).next z (log_in s t)) free (inp.at (l.in_at s t) (ok.ring_in s t rg).0) in
            elim (last_or (w.rings s t)) [
              | inr la ↦ takes_from s t rg idle free la
              | inl nil ↦ absurd (empty_ring n s t rg few none (h.before s fw) nil (here.0 ∙ next) here.1)
            ])
      ]

done_from : (s : State) → busy s ≡ false → (s.over ≡ true) × (s.pending ≡ [])
done_from s e = elim (pending_or s.pending) [
  | inr x ↦ absurd (false≢true (sym e ∙ or_left (has_pending s.pending) (not s.over) (ap has_pending x.2)))
  | inl idle ↦ elim (cases_Bool s.over) [
    | inl o ↦ (o, idle)
    | inr o ↦ absurd (false≢true (sym e ∙ or_right (has_pending s.pending) (not s.over) (ap not o)))
  ]
]

pub progress : Progress
progress p l capacity start w ok some b input r = elim (least (λ u. put_by (w.tasks u)) (λ u. busy (w.tasks u)) (suc l.sink)) [
  | inl none ↦ inl (λ t m. done_from (w.tasks t) (none t (omega (arith, m))))
  | inr h ↦
      (let n = put_by (w.tasks h.at) in
      elim (top (sending p l capacity start w ok b input r n) (suc l.sink)) [
        | inr x ↦ inr (pending_moves p l capacity start w ok b input r n some h.least x)
        | inl none ↦ elim (bottom (first_stage p l capacity start w ok b input r n) (suc l.sink)) [
          | inr x ↦ inr (idle_moves p l capacity start w ok b input r n h.least none x)
          | inl off ↦ absurd (false≢true (sym (off h.at h.below) ∙ and_from (busy (w.tasks h.at)) (eqb n n) h.is (eq-eqb n n refl)))
        ]
      ])
]
