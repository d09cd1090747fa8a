-- How many records a task has taken, and given.
use Rattle.std.proofs.Common.{◌≡◌, ℕ, zero, suc, ◌+◌, ◌<◌, ◌≤◌, ℤ, List, [], ◌∷◌, ◌++◌, Bool, true, false, cond, eqb, map, length, get_or, set, refl, sym, ap, subst, ◌∙◌, ◌⊎◌, inl, inr, arith, length-set, Option, Some, None, if◌then◌else◌}
use Rattle.std.specs.List.{filter}
use Rattle.std.proofs.lemmas.Bool.{cases_Bool}
use Rattle.std.proofs.lemmas.List.{get_or-set_same, get_or-set_other}
use Rattle.plain_data.specs.Record.{Record, at}
use Rattle.columns.specs.Table.{Table}
use Rattle.plan_model.specs.declared.spec.Row.{Row}
use Rattle.plan_model.specs.PlanData.{PlanData}
use Rattle.input_state.specs.Inputs.{rise, risen, least}
use Rattle.plain_data.specs.Times.{lowest}
use Rattle.dataflow_model.specs.declared.message.Message.{Message}
use Rattle.dataflow_model.specs.declared.message.Message.TheVariants.{Rows, Fired, Watermark, Barrier, End}
use Rattle.dataflow_model.specs.declared.role.Role.TheVariants.{Source}
use Rattle.dataflow_model.specs.Message.{records_of}
use Rattle.dataflow_model.specs.Role.{is_source}
use Rattle.dataflow_model.specs.Sums.{total}
use Rattle.dataflow_model.specs.AbstractTask.{AbstractTask, Routing, Whole, Split}
use Rattle.dataflow_model.specs.State.{State}
use Rattle.dataflow_model.specs.Routes.{spread, batch, part, route, route_of, to_all, announce, fired}
use Rattle.dataflow_model.specs.Steps.{Event, Open, Read, Save, Stop, Close, Take, Put, LocalStep}
use Rattle.dataflow_model.specs.Steps.LocalStep.{put, opens, reads, saves, stops, closes, chain_rows, chain_mark, window_rows, window_mark, sink_rows, sink_mark, holds, aligns, ends, ends_all, ends_aligned}
use Rattle.dataflow_model.specs.Runs.{Run, taken, sent, only, onto, given}
use Rattle.dataflow_model.specs.Runs.Run.{none, more}
use Rattle.dataflow_model.proofs.Facts.{total_same, total_add, total_none, total_at, total_at_le, total_change, eqb_swap, given_put}
use Rattle.dataflow_laws.proofs.Needs.{step_needs}
use Rattle.dataflow_laws.proofs.Events.{IsPut, put_is, sent_same}
use Rattle.dataflow_laws.proofs.Opened.{IsFresh}

-- how many records a log has, and pending messages
abbrev pub count : List Message → ℕ
count [] = 0
count (m ∷ log) = length (records_of m) + count log

abbrev count_pending : List (ℕ × Message) → ℕ
count_pending [] = 0
count_pending (x ∷ ps) = length (records_of x.1) + count_pending ps

count_onto : (ms log : List Message) → count (onto ms log) ≡ count ms + count log
count_onto [] log = omega arith
count_onto (m ∷ ms) log = let a = count_onto ms (m ∷ log) in omega (arith, a)

pub count_append : (xs ys : List Message) → count (xs ++ ys) ≡ count xs + count ys
count_append [] ys = omega arith
count_append (x ∷ xs) ys = let a = count_append xs ys in omega (arith, a)

count_cond : (b : Bool) (m : Message) (log : List Message) → count (cond b (m ∷ log) log) ≡ cond b (length (records_of m)) 0 + count log
count_cond true m log = refl
count_cond false m log = omega arith

-- each pending message is for one output
pending_once : (n : ℕ) (ps : List (ℕ × Message)) → total n (λ j. count (only j ps)) ≤ count_pending ps
pending_once n [] = let a = total_none n in omega (arith, a)
pending_once n (x ∷ ps) =
    let a = total_same n (λ j. count (cond (eqb j x.0) (x.1 ∷ only j ps) (only j ps))) (λ j. cond (eqb j x.0) (length (records_of x.1)) 0 + count (only j ps)) (λ j l. count_cond (eqb j x.0) x.1 (only j ps)) in
    let b = total_add n (λ j. cond (eqb j x.0) (length (records_of x.1)) 0) (λ j. count (only j ps)) in
    let c = total_at_le n x.0 (length (records_of x.1)) in
    let d = pending_once n ps in
    omega (arith, a, b, c, d)

pending_append : (xs ys : List (ℕ × Message)) → count_pending (xs ++ ys) ≡ count_pending xs + count_pending ys
pending_append [] ys = omega arith
pending_append (x ∷ xs) ys = let a = pending_append xs ys in omega (arith, a)

pending_map : (n : ℕ) (ms : List Message) → count_pending (map (λ m. (n, m)) ms) ≡ count ms
pending_map n [] = refl
pending_map n (m ∷ ms) = let a = pending_map n ms in omega (arith, a)

pending_spread : (n : ℕ) (f : ℕ → List Message) → count_pending (spread n f) ≡ total n (λ j. count (f j))
pending_spread zero f = refl
pending_spread (suc n) f =
    let a = pending_append (spread n f) (map (λ m. (n, m)) (f n)) in
    let b = pending_map n (f n) in
    let c = pending_spread n f in
    omega (arith, a, b, c)

count_batch : (width : ℕ) (xs : List Record) → count (batch width xs) ≡ length xs
count_batch width [] = refl
count_batch width (x ∷ xs) = omega arith

filter_le : (test : Record → Bool) (xs : List Record) → length (filter test xs) ≤ length xs
filter_le test [] = omega arith
filter_le test (x ∷ xs) = let a = filter_le test xs in elim (cases_Bool (test x)) [ inl e ↦ rw e (omega (arith, a)) | inr e ↦ rw e (omega (arith, a)) ]

length_cond : (b : Bool) (xs : List Record) → length (cond b xs []) ≡ cond b (length xs) 0
length_cond true xs = refl
length_cond false xs = refl

-- no record goes to two outputs
parts_le : (key : ℕ) (routing : Routing) (n cursor : ℕ) (xs : List Record) → total n (λ j. length (part key routing cursor xs j)) ≤ length xs
parts_le key Whole n c xs =
    let a = total_same n (λ j. length (cond (eqb j c) xs [])) (λ j. cond (eqb j c) (length xs) 0) (λ j l. length_cond (eqb j c) xs) in
    let b = total_at_le n c (length xs) in
    omega (arith, a, b)
parts_le key (Split owner) n c [] = let a = total_none n in omega (arith, a)
parts_le key (Split owner) n c (x ∷ xs) =
    let here = owner (at key x) in
    let one : (j : ℕ) → length (cond (eqb here j) (x ∷ filter (λ r. eqb (owner (at key r)) j) xs) (filter (λ r. eqb (owner (at key r)) j) xs)) ≡ cond (eqb j here) 1 0 + length (filter (λ r. eqb (owner (at key r)) j) xs) =
    λ j. let s = eqb_swap here j in elim (cases_Bool (eqb j here)) [ inl e ↦ rw (s, e) (omega arith) | inr e ↦ rw (s, e) (omega arith) ] in
    let a = total_same n (λ j. length (cond (eqb here j) (x ∷ filter (λ r. eqb (owner (at key r)) j) xs) (filter (λ r. eqb (owner (at key r)) j) xs))) (λ j. cond (eqb j here) 1 0 + length (filter (λ r. eqb (owner (at key r)) j) xs)) (λ j l. one j) in
    let b = total_add n (λ j. cond (eqb j here) 1 0) (λ j. length (filter (λ r. eqb (owner (at key r)) j) xs)) in
    let d = total_at_le n here 1 in
    let h = parts_le key (Split owner) n c xs in
    omega (arith, a, b, d, h)

route_le : (key : ℕ) (k : AbstractTask) (cursor : ℕ) (t : Table) → count_pending (route key k cursor t) ≤ length t.rows
route_le key k cursor t =
    let xs = filter k.keeps t.rows in
    let a = pending_spread k.outputs (λ j. batch t.width (part key k.routing cursor xs j)) in
    let b = total_same k.outputs (λ j. count (batch t.width (part key k.routing cursor xs j))) (λ j. length (part key k.routing cursor xs j)) (λ j l. count_batch t.width (part key k.routing cursor xs j)) in
    let c = parts_le key k.routing k.outputs cursor xs in
    let d = filter_le k.keeps t.rows in
    omega (arith, a, b, c, d)

route_of_le : (key : ℕ) (k : AbstractTask) (cursor : ℕ) (m : Message) → count_pending (route_of key k cursor m) ≤ length (records_of m)
route_of_le key k cursor (Rows t) = route_le key k cursor t
route_of_le key k cursor (Fired rows) = omega arith
route_of_le key k cursor (Watermark t) = omega arith
route_of_le key k cursor (Barrier n) = omega arith
route_of_le key k cursor End = omega arith

all_none : (n : ℕ) (m : Message) → records_of m ≡ [] → count_pending (to_all n m) ≡ 0
all_none n m e =
    let a = pending_spread n (λ j. m ∷ []) in
    let b = total_same n (λ j. count (m ∷ [])) (λ j. 0) (λ j l. let z = ap length e in omega (arith, z)) in
    let c = total_none n in
    omega (arith, a, b, c)

announce_none : (n : ℕ) (o : Option ℤ) → count_pending (announce n o) ≡ 0
announce_none n None = refl
announce_none n (Some t) = all_none n (Watermark t) refl

fired_none : (rows : List Row) → count_pending (fired rows) ≡ 0
fired_none [] = refl
fired_none (r ∷ rows) = omega arith

-- how many records the first n entries of a partition have, and those that a source has read
abbrev pub below : (ℕ → Message) → ℕ → ℕ
below entry n = total n (λ i. length (records_of (entry i)))

abbrev pub has_read : AbstractTask → State → ℕ
has_read k s = if is_source k.role then total k.inputs (λ q. below (k.entry q) (get_or s.offsets q 0)) else 0

-- how many records a step takes
abbrev comes_in : Event → ℕ
comes_in Open = 0
comes_in (Read n) = 0
comes_in Save = 0
comes_in Stop = 0
comes_in Close = 0
comes_in (Take i m) = length (records_of m)
comes_in (Put j m) = 0

-- what a step that is no put gives, takes and reads
record StepCounts (k : AbstractTask) (s : State) (e : Event) (s' : State) : Type 0 where
  other : IsPut e → ⊥
  had : s.pending ≡ []
  gives : count_pending s'.pending + has_read k s ≤ comes_in e + has_read k s'
  took : s'.taken ≡ s.taken + comes_in e
  long : length s'.offsets ≡ length s.offsets

read_more : (k : AbstractTask) (offs : List ℕ) (q : ℕ) → q < k.inputs → length offs ≡ k.inputs
    → total k.inputs (λ r. below (k.entry r) (get_or (set offs q (suc (get_or offs q 0))) r 0)) ≡ length (records_of (k.entry q (get_or offs q 0))) + total k.inputs (λ r. below (k.entry r) (get_or offs r 0))
read_more k offs q l e =
    let c = total_change k.inputs q (λ r. below (k.entry r) (get_or (set offs q (suc (get_or offs q 0))) r 0)) (λ r. below (k.entry r) (get_or offs r 0)) l (λ r ne. ap (below (k.entry r)) (get_or-set_other offs q r (suc (get_or offs q 0)) 0 ne)) in
    let d : below (k.entry q) (get_or (set offs q (suc (get_or offs q 0))) q 0) ≡ length (records_of (k.entry q (get_or offs q 0))) + below (k.entry q) (get_or offs q 0) = ap (below (k.entry q)) (get_or-set_same offs q (suc (get_or offs q 0)) 0 (omega (arith, l, e))) in
    omega (arith, c, d)

step_counts : (p : PlanData) (k : AbstractTask) (s : State) (e : Event) (s' : State) → (k.role ≡ Source → length s.offsets ≡ k.inputs) → LocalStep p k s e s' → IsPut e ⊎ StepCounts k s e s'
step_counts p k s e s' lo (put is) = inl tt
step_counts p k s e s' lo (opens can) = inr (record { other = λ x. x; had = can.idle; gives = (let a = announce_none k.outputs (risen lowest (least s.inputs.marks)) in omega (arith, a)); took = omega arith; long = refl })
step_counts p k s e s' lo (reads {q = q} own) =
    let r = own.can.can in
    let role = r.source in
    let a = pending_append (route_of p.window.key k s.cursor (k.entry q (get_or s.offsets q 0))) (announce k.outputs (rise s.inputs.marks q (k.brings q (get_or s.offsets q 0)))) in
    let b = announce_none k.outputs (rise s.inputs.marks q (k.brings q (get_or s.offsets q 0))) in
    let c = route_of_le p.window.key k s.cursor (k.entry q (get_or s.offsets q 0)) in
    let d = read_more k s.offsets q own.can.partition (lo role) in
    inr (record { other = λ x. x; had = r.idle; gives = (let f = ap is_source role in rw f (omega (arith, a, b, c, d))); took = omega arith; long = length-set s.offsets q (suc (get_or s.offsets q 0)) })
step_counts p k s e s' lo (saves can may) = inr (record { other = λ x. x; had = can.idle; gives = (let a = all_none k.outputs (Barrier (k.first + s.next)) refl in omega (arith, a)); took = omega arith; long = refl })
step_counts p k s e s' lo (stops can may) = inr (record { other = λ x. x; had = can.idle; gives = (let a = all_none k.outputs (Barrier (k.first + s.next)) refl in omega (arith, a)); took = omega arith; long = refl })
step_counts p k s e s' lo (closes can may) = inr (record { other = λ x. x; had = can.idle; gives = (let a = all_none k.outputs End refl in omega (arith, a)); took = omega arith; long = refl })
step_counts p k s e s' lo (chain_rows {t = t} role takes) = inr (record { other = λ x. x; had = takes.can.idle; gives = (let a = route_le p.window.key k s.cursor t in omega (arith, a)); took = refl; long = refl })
step_counts p k s e s' lo (chain_mark {i = i} {t = t} role takes) = inr (record { other = λ x. x; had = takes.can.idle; gives = (let a = announce_none k.outputs (rise s.inputs.marks i t) in omega (arith, a)); took = omega arith; long = refl })
step_counts p k s e s' lo (window_rows role takes added) = inr (record { other = λ x. x; had = takes.can.idle; gives = (let a = ap count_pending takes.can.idle in omega (arith, a)); took = refl; long = refl })
step_counts p k s e s' lo (window_mark {i = i} {t = t} rows role takes fires) =
    let a = pending_append (fired rows) (announce k.outputs (rise s.inputs.marks i t)) in
    let b = announce_none k.outputs (rise s.inputs.marks i t) in
    let c = fired_none rows in
    inr (record { other = λ x. x; had = takes.can.idle; gives = omega (arith, a, b, c); took = omega arith; long = refl })
step_counts p k s e s' lo (sink_rows role takes) = inr (record { other = λ x. x; had = takes.can.idle; gives = (let a = ap count_pending takes.can.idle in omega (arith, a)); took = omega arith; long = refl })
step_counts p k s e s' lo (sink_mark role takes) = inr (record { other = λ x. x; had = takes.can.idle; gives = (let a = ap count_pending takes.can.idle in omega (arith, a)); took = omega arith; long = refl })
step_counts p k s e s' lo (holds takes is) = inr (record { other = λ x. x; had = takes.can.idle; gives = (let a = ap count_pending takes.can.idle in omega (arith, a)); took = omega arith; long = refl })
step_counts p k s e s' lo (aligns takes is) = inr (record { other = λ x. x; had = takes.can.idle; gives = (let a = all_none k.outputs (Barrier (k.first + s.next)) refl in omega (arith, a)); took = omega arith; long = refl })
step_counts p k s e s' lo (ends takes is) = inr (record { other = λ x. x; had = takes.can.idle; gives = (let a = ap count_pending takes.can.idle in omega (arith, a)); took = omega arith; long = refl })
step_counts p k s e s' lo (ends_all takes is) = inr (record { other = λ x. x; had = takes.can.idle; gives = (let a = all_none k.outputs End refl in omega (arith, a)); took = omega arith; long = refl })
step_counts p k s e s' lo (ends_aligned takes is) = inr (record { other = λ x. x; had = takes.can.idle; gives = (let a = all_none k.outputs (Barrier (k.first + s.next)) refl in omega (arith, a)); took = omega arith; long = refl })

-- what was taken grows by what comes in
taken_more : (n : ℕ) (e : Event) (es : List Event) → (IsPut e → ⊥) → ((i : ℕ) (m : Message) → e ≡ Take i m → i < n) → total n (λ i. count (taken i (e ∷ es))) ≡ comes_in e + total n (λ i. count (taken i es))
taken_more n Open es np l = omega arith
taken_more n (Read q) es np l = omega arith
taken_more n Save es np l = omega arith
taken_more n Stop es np l = omega arith
taken_more n Close es np l = omega arith
taken_more n (Take i m) es np l =
    let a = total_same n (λ x. count (cond (eqb x i) (m ∷ taken x es) (taken x es))) (λ x. cond (eqb x i) (length (records_of m)) 0 + count (taken x es)) (λ x _. count_cond (eqb x i) m (taken x es)) in
    let b = total_add n (λ x. cond (eqb x i) (length (records_of m)) 0) (λ x. count (taken x es)) in
    let c = total_at n i (length (records_of m)) (l i m refl) in
    omega (arith, a, b, c)
taken_more n (Put j m) es np l = absurd (np tt)

-- a task gives no more records than it takes and reads, and keeps count of what it takes
pub record Counting (k : AbstractTask) (es : List Event) (s : State) : Type 0 where
  pub gives : total k.outputs (λ j. count (given j es s)) ≤ total k.inputs (λ i. count (taken i es)) + has_read k s
  pub took : s.taken ≡ total k.inputs (λ i. count (taken i es))
  pub long : k.role ≡ Source → length s.offsets ≡ k.inputs

counting_put : (k : AbstractTask) (es : List Event) (s : State) (j : ℕ) (m : Message) (rest : List (ℕ × Message)) → s.pending ≡ (j, m) ∷ rest → Counting k es s → Counting k (Put j m ∷ es) (record s { pending = rest })
counting_put k es s j m rest is r =
    let same = total_same k.outputs (λ x. count (onto (only x rest) (cond (eqb x j) (m ∷ sent x es) (sent x es)))) (λ x. count (given x es s)) (λ x l. ap count (given_put x j m rest (sent x es) ∙ ap (λ q. onto (only x q) (sent x es)) (sym is))) in
    let g = r.gives in
    record { gives = omega (arith, same, g); took = r.took; long = r.long }

counting_other : (p : PlanData) (k : AbstractTask) (es : List Event) (s : State) (e : Event) (s' : State) → LocalStep p k s e s' → StepCounts k s e s' → Counting k es s → Counting k (e ∷ es) s'
counting_other p k es s e s' st c r =
    let inside : (i : ℕ) (m : Message) → e ≡ Take i m → i < k.inputs = λ i m u. (step_needs p k s (Take i m) s' (subst (λ x. LocalStep p k s x s') u st)).can.input in
    let t = taken_more k.inputs e es c.other inside in
    let a = total_same k.outputs (λ j. count (given j (e ∷ es) s')) (λ j. count (only j s'.pending) + count (given j es s)) (λ j l.
    count_onto (only j s'.pending) (sent j (e ∷ es)) ∙ ap (λ x. count (only j s'.pending) + count x) (elim (sent_same j e es) [ inl y ↦ absurd (c.other y) | inr y ↦ y ] ∙ sym (ap (λ q. onto (only j q) (sent j es)) c.had))) in
    let b = total_add k.outputs (λ j. count (only j s'.pending)) (λ j. count (given j es s)) in
    let d = pending_once k.outputs s'.pending in
    let f = c.gives in
    let g = r.gives in
    record {
      gives = omega (arith, t, a, b, d, f, g);
      took = (let h = r.took in let o = c.took in omega (arith, h, o, t));
      long = λ x. c.long ∙ r.long x;
    }

counting_step : (p : PlanData) (k : AbstractTask) (es : List Event) (s : State) (e : Event) (s' : State) → LocalStep p k s e s' → Counting k es s → Counting k (e ∷ es) s'
counting_step p k es s e s' st r = elim (step_counts p k s e s' r.long st) [
  | inr c ↦ counting_other p k es s e s' st c r
  | inl y ↦
      let x = put_is p k s e s' st y in
      subst (Counting k (e ∷ es)) (sym x.5) (subst (λ z. Counting k (z ∷ es) (record s { pending = x.2 })) (sym x.3) (counting_put k es s x.0 x.1 x.2 x.4 r))
]

counting_fresh : (k : AbstractTask) (s : State) → IsFresh k s → (k.role ≡ Source → length s.offsets ≡ k.inputs) → Counting k [] s
counting_fresh k s f lo =
    let a = total_none k.inputs in
    let b = total_same k.outputs (λ j. count (given j [] s)) (λ j. 0) (λ j l. ap (λ q. count (onto (only j q) [])) f.pending) in
    let c = total_none k.outputs in
    record { gives = omega (arith, a, b, c); took = f.taken ∙ sym a; long = lo }

pub counting : (p : PlanData) (k : AbstractTask) (start : State) → IsFresh k start → (k.role ≡ Source → length start.offsets ≡ k.inputs) → {es : List Event} {s : State} → Run p k start es s → Counting k es s
counting p k start f lo none = counting_fresh k start f lo
counting p k start f lo (more {es = es} {s = s} {e = e} {s' = s'} run st) = counting_step p k es s e s' st (counting p k start f lo run)
