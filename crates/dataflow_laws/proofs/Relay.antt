-- What a task before the windows does to the logs of its rings.
use Rattle.std.proofs.Common.{◌≡◌, ℕ, zero, suc, ◌+◌, ◌<◌, List, [], ◌∷◌, Bool, cond, eqb, ltb, length, get_or, set, replicate, refl, sym, ap, subst, ◌∙◌, inl, inr, arith, length-set, get_or-set_same, get_or-set_other, ℤ, pos, ◌≤ℤ◌}
use Rattle.std.specs.Int.{int_max}
use Rattle.std.proofs.lemmas.List.{length-replicate}
use Rattle.std.proofs.lemmas.Bool.{cases_eq, cases_Bool, eq-eqb, ne_eqb, ltb-true}
use Rattle.std.proofs.lemmas.Int.{ints, clamps}
use Rattle.std.specs.List.{filter}
use Rattle.plain_data.specs.Record.{Record}
use Rattle.plain_data.specs.Times.{lowest, highest}
use Rattle.columns.specs.Table.{Table}
use Rattle.plan_model.specs.PlanData.{PlanData}
use Rattle.input_state.specs.declared.inputs.Shut.{Shut}
use Rattle.input_state.specs.declared.inputs.Shut.TheVariants.{Held, Ended}
use Rattle.input_state.specs.Inputs.{inputs_from, least, raised, risen, rise}
use Rattle.dataflow_model.specs.declared.message.Message.{Message}
use Rattle.dataflow_model.specs.declared.message.Message.TheVariants.{Rows, Watermark, Barrier, End}
use Rattle.dataflow_model.specs.declared.role.Role.TheVariants.{Chain}
use Rattle.dataflow_model.specs.AbstractTask.{AbstractTask, Routing, Whole, Split}
use Rattle.dataflow_model.specs.State.{State, Kept}
use Rattle.dataflow_model.specs.Routes.{batch, part, next_cursor, route, to_all, announce}
use Rattle.dataflow_model.specs.Steps.{Event, Take, Put, LocalStep, with_mark}
use Rattle.dataflow_model.specs.Steps.LocalStep.{put, opens, reads, saves, stops, closes, chain_rows, chain_mark, window_rows, window_mark, sink_rows, sink_mark, holds, aligns, ends, ends_all, ends_aligned}
use Rattle.dataflow_model.specs.Runs.{Run, taken, sent, only, onto, given}
use Rattle.dataflow_model.specs.Runs.Run.{none, more}
use Rattle.dataflow_laws.proofs.Streams.{weigh, weigh_message, weigh_log, mark_after, mark_of, late, IsOrderly, Owns, Reaches, IsPlain, told}
use Rattle.dataflow_laws.proofs.Logs.{only_announce, weigh_batch, mark_batch, orderly_batch, plain_taken, plain_mark_after, weigh_plain, mark_plain, orderly_plain, weigh_told, orderly_told, mark_announced, late_none, parts_weigh, part_le, part_owned, weigh_filter, weigh_filter_le}
use Rattle.dataflow_model.specs.Sums.{total}
use Rattle.dataflow_model.proofs.Facts.{given_put, given_spread, total_add, total_at, total_none, total_same}

-- what is taken, after one more message on input i
pub taken_orderly : (c : ℕ) (P : ℕ → List Message) (n i : ℕ) (m : Message) → i < n → ((k : ℕ) → k < n → IsOrderly c (cond (eqb k i) (m ∷ P k) (P k))) → ((k : ℕ) → k < n → IsOrderly c (P k)) × (weigh_message (late c (mark_of (P i))) m ≡ 0)
taken_orderly c P n i m l h = (
  (λ k q. elim (cases_Bool (eqb k i)) [
    | inl e ↦ (let o = h k q in rw e at o).1
    | inr e ↦ let o = h k q in rw e at o
  ]),
  (let e = eq-eqb i i refl in let o = h i l in rw e at o).0,
)

pub taken_weigh : (g : Record → ℕ) (P : ℕ → List Message) (n i : ℕ) (m : Message) → i < n → total n (λ k. weigh_log g (cond (eqb k i) (m ∷ P k) (P k))) ≡ weigh_message g m + total n (λ k. weigh_log g (P k))
taken_weigh g P n i m l =
    total_same n _ (λ k. cond (eqb k i) (weigh_message g m) 0 + weigh_log g (P k)) (λ k q. elim (cases_Bool (eqb k i)) [ inl e ↦ rw e refl | inr e ↦ rw e (omega arith) ])
    ∙ total_add n (λ k. cond (eqb k i) (weigh_message g m) 0) (λ k. weigh_log g (P k))
    ∙ ap (λ x. x + total n (λ k. weigh_log g (P k))) (total_at n i (weigh_message g m) l)

pub taken_mark : (k i : ℕ) (m : Message) (log : List Message) → mark_after m (mark_of log) ≡ mark_of log → mark_of (cond (eqb k i) (m ∷ log) log) ≡ mark_of log
taken_mark k i m log h = elim (cases_Bool (eqb k i)) [ inl e ↦ rw e h | inr e ↦ rw e refl ]

-- ---- the least of watermarks

pub least_le : (ms : List ℤ) (i : ℕ) → i < length ms → least ms ≤ℤ get_or ms i (pos 0)
least_le [] i l = absurd (omega arith)
least_le (m ∷ ms) zero l = omega (arith, ints, clamps)
least_le (m ∷ ms) (suc i) l = let h = least_le ms i (omega arith) in omega (arith, ints, clamps, h)

pub least_highest : (ms : List ℤ) → least ms ≤ℤ highest
least_highest [] = omega (arith, ints)
least_highest (m ∷ ms) = let h = least_highest ms in omega (arith, ints, clamps, h)

pub least_from : (ms : List ℤ) (v : ℤ) → v ≤ℤ highest → ((i : ℕ) → i < length ms → v ≤ℤ get_or ms i (pos 0)) → v ≤ℤ least ms
least_from [] v m h = m
least_from (x ∷ ms) v m h = let a : v ≤ℤ x = h 0 (omega arith) in let b = least_from ms v m (λ i l. h (suc i) (omega arith)) in omega (arith, ints, clamps, a, b)

pub least_rises : (ms : List ℤ) (i : ℕ) (v : ℤ) → get_or ms i (pos 0) ≤ℤ v → least ms ≤ℤ least (set ms i v)
least_rises [] i v l = omega (arith, ints)
least_rises (m ∷ ms) zero v l = omega (arith, ints, clamps)
least_rises (m ∷ ms) (suc i) v l = let h = least_rises ms i v l in omega (arith, ints, clamps, h)

pub least_raised : (ms : List ℤ) (i : ℕ) (t : ℤ) → least ms ≤ℤ least (raised ms i t)
least_raised ms i t = least_rises ms i (int_max (get_or ms i (pos 0)) t) (omega (arith, ints, clamps))

above_lowest : (n : ℕ) → lowest ≤ℤ least (replicate n lowest)
above_lowest zero = omega (arith, ints)
above_lowest (suc n) = let h = above_lowest n in omega (arith, ints, clamps, h)

pub least_none : (n : ℕ) → 0 < n → least (replicate n lowest) ≡ lowest
least_none zero l = absurd (omega arith)
least_none (suc n) l = let h = above_lowest n in omega (arith, ints, clamps, h)

pub get_none : (n i : ℕ) → i < n → get_or {A = ℤ} (replicate n lowest) i (pos 0) ≡ lowest
get_none zero i l = absurd (omega arith)
get_none (suc n) zero l = refl
get_none (suc n) (suc i) l = get_none n i (omega arith)

-- the watermarks after one more on input i
pub raised_marks : (P : ℕ → List Message) (n i : ℕ) (t : ℤ) (ms : List ℤ) → length ms ≡ n → i < n → ((k : ℕ) → k < n → get_or ms k (pos 0) ≡ mark_of (P k)) → (k : ℕ) → k < n → get_or (raised ms i t) k (pos 0) ≡ mark_of (cond (eqb k i) (Watermark t ∷ P k) (P k))
raised_marks P n i t ms e l h k q =
    let il : i < length ms = omega arith in
    elim (cases_eq k i) [
      | inl u ↦ (let d = eq-eqb k i u in rw d (rw u (get_or-set_same ms i (int_max (get_or ms i (pos 0)) t) (pos 0) il ∙ ap (λ x. int_max x t) (h i l))))
      | inr u ↦ (let d = ne_eqb k i u in rw d (get_or-set_other ms i k (int_max (get_or ms i (pos 0)) t) (pos 0) u ∙ h k q))
    ]

-- ---- a task of a chain

-- the records that a task keeps
abbrev pub kept : AbstractTask → (Record → ℕ) → Record → ℕ
kept k h r = cond (k.keeps r) (h r) 0

-- what is known of a task of a chain after its steps
pub record Relays (p : PlanData) (k : AbstractTask) (es : List Event) (s : State) : Type 0 where
  pub length_marks : length s.inputs.marks ≡ k.inputs
  pub cursor : Reaches k.routing k.outputs s.cursor
  pub marks : (i : ℕ) → i < k.inputs → get_or s.inputs.marks i (pos 0) ≡ mark_of (taken i es)
  pub said : (j : ℕ) → j < k.outputs → mark_of (given j es s) ≡ least s.inputs.marks
  pub flow : (h : Record → ℕ) → total k.outputs (λ j. weigh_log h (given j es s)) ≡ total k.inputs (λ i. weigh_log (kept k h) (taken i es))
  pub owned : (h : Record → ℕ) (j : ℕ) → j < k.outputs → ((r : Record) → Owns p.window.key k.routing j r → h r ≡ 0) → weigh_log h (given j es s) ≡ 0
  pub orderly : ((i : ℕ) → i < k.inputs → IsOrderly p.window.time (taken i es)) → (j : ℕ) → j < k.outputs → IsOrderly p.window.time (given j es s)

relays_put : (p : PlanData) (k : AbstractTask) (es : List Event) (s : State) (j : ℕ) (m : Message) (rest : List (ℕ × Message)) → s.pending ≡ (j, m) ∷ rest → Relays p k es s → Relays p k (Put j m ∷ es) (record s { pending = rest })
relays_put p k es s i m rest e r =
    let same : (j : ℕ) → given j (Put i m ∷ es) (record s { pending = rest }) ≡ given j es s = λ j. given_put j i m rest (sent j es) ∙ ap (λ p. onto (only j p) (sent j es)) (sym e) in
    record {
      length_marks = r.length_marks;
      cursor = r.cursor;
      marks = r.marks;
      said = λ j l. ap mark_of (same j) ∙ r.said j l;
      flow = λ h. total_same k.outputs _ _ (λ j l. ap (weigh_log h) (same j)) ∙ r.flow h;
      owned = λ h j l n. ap (weigh_log h) (same j) ∙ r.owned h j l n;
      orderly = λ o j l. subst (IsOrderly p.window.time) (sym (same j)) (r.orderly o j l);
    }

-- the records that a task sends of others, on logs G
pub rows_flow : (h : Record → ℕ) (key width : ℕ) (k : AbstractTask) (c : ℕ) (rs : List Record) (G : ℕ → List Message) → Reaches k.routing k.outputs c → total k.outputs (λ j. weigh_log h (onto (batch width (part key k.routing c (filter k.keeps rs) j)) (G j))) ≡ weigh (kept k h) rs + total k.outputs (λ j. weigh_log h (G j))
rows_flow h key width k c rs G a =
    total_same k.outputs _ _ (λ j l. weigh_batch h width (part key k.routing c (filter k.keeps rs) j) (G j))
    ∙ total_add k.outputs (λ j. weigh h (part key k.routing c (filter k.keeps rs) j)) (λ j. weigh_log h (G j))
    ∙ ap (λ x. x + total k.outputs (λ j. weigh_log h (G j))) (parts_weigh h key k.routing k.outputs c a (filter k.keeps rs) ∙ weigh_filter h k.keeps rs)

pub rows_owned : (h : Record → ℕ) (key width : ℕ) (k : AbstractTask) (c j : ℕ) (rs : List Record) (log : List Message) → ((r : Record) → Owns key k.routing j r → h r ≡ 0) → weigh_log h log ≡ 0 → weigh_log h (onto (batch width (part key k.routing c (filter k.keeps rs) j)) log) ≡ 0
rows_owned h key width k c j rs log n z = weigh_batch h width (part key k.routing c (filter k.keeps rs) j) log ∙ (let a = part_owned h key k.routing c j n (filter k.keeps rs) in omega (arith, a, z))

pub rows_orderly : (time key width : ℕ) (k : AbstractTask) (c j : ℕ) (w : ℤ) (rs : List Record) (log : List Message) → mark_of log ≤ℤ w → weigh (late time w) rs ≡ 0 → IsOrderly time log → IsOrderly time (onto (batch width (part key k.routing c (filter k.keeps rs) j)) log)
rows_orderly time key width k c j w rs log l z o =
    let v = mark_of log in
    let a = part_le (late time v) key k.routing c (filter k.keeps rs) j in
    let b = weigh_filter_le (late time v) k.keeps rs in
    let d = late_none time v w l rs z in
    orderly_batch time width (part key k.routing c (filter k.keeps rs) j) log (omega (arith, a, b, d)) o

pub reaches_next : (routing : Routing) (n c : ℕ) (rs : List Record) → Reaches routing n c → Reaches routing n (next_cursor n c rs)
reaches_next Whole n c [] a = a
reaches_next Whole n c (r ∷ rs) a = elim (cases_Bool (ltb (suc c) n)) [ inl e ↦ rw e (ltb-true (suc c) n e) | inr e ↦ rw e (omega arith) ]
reaches_next (Split owner) n c rs a = a

-- a barrier or an end that is passed on
plain_step : (p : PlanData) (k : AbstractTask) (es : List Event) (s : State) (i : ℕ) (m m' : Message) (shut : List Shut) (over : Bool) (next : ℕ) (keep : List Kept) → i < k.inputs → s.pending ≡ [] → IsPlain m → IsPlain m' → Relays p k es s
    → Relays p k (Take i m ∷ es) (record s { inputs = inputs_from s.inputs.marks shut; over = over; next = next; kept = keep; pending = to_all k.outputs m' })
plain_step p k es s i m m' shut over next keep l e pl pl' r =
    let G : ℕ → List Message = λ j. given j es s in
    let new : State = record s { inputs = inputs_from s.inputs.marks shut; over = over; next = next; kept = keep; pending = to_all k.outputs m' } in
    let same : (j : ℕ) → j < k.outputs → given j (Take i m ∷ es) new ≡ m' ∷ G j = λ j q. given_spread k.outputs (λ j. m' ∷ []) j (sent j es) s.pending e q in
    record {
      length_marks = r.length_marks;
      cursor = r.cursor;
      marks = λ x q. r.marks x q ∙ sym (taken_mark x i m (taken x es) (plain_mark_after m (mark_of (taken x es)) pl));
      said = λ j q. ap mark_of (same j q) ∙ mark_plain m' (G j) pl' ∙ r.said j q;
      flow = λ h. total_same k.outputs _ _ (λ j q. ap (weigh_log h) (same j q) ∙ weigh_plain h m' (G j) pl') ∙ r.flow h
          ∙ sym (taken_weigh (kept k h) (λ x. taken x es) k.inputs i m l ∙ ap (λ x. x + total k.inputs (λ x. weigh_log (kept k h) (taken x es))) (plain_taken (kept k h) m pl) ∙ omega arith);
      owned = λ h j q n. ap (weigh_log h) (same j q) ∙ weigh_plain h m' (G j) pl' ∙ r.owned h j q n;
      orderly = λ o j q. subst (IsOrderly p.window.time) (sym (same j q)) (orderly_plain p.window.time m' (G j) pl' (r.orderly (taken_orderly p.window.time (λ x. taken x es) k.inputs i m l o).0 j q));
    }

-- a barrier or an end that has to wait for others
quiet_step : (p : PlanData) (k : AbstractTask) (es : List Event) (s : State) (i : ℕ) (m : Message) (shut : List Shut) → i < k.inputs → IsPlain m → Relays p k es s → Relays p k (Take i m ∷ es) (record s { inputs = inputs_from s.inputs.marks shut })
quiet_step p k es s i m shut l pl r =
    record {
      length_marks = r.length_marks;
      cursor = r.cursor;
      marks = λ x q. r.marks x q ∙ sym (taken_mark x i m (taken x es) (plain_mark_after m (mark_of (taken x es)) pl));
      said = r.said;
      flow = λ h. r.flow h ∙ sym (taken_weigh (kept k h) (λ x. taken x es) k.inputs i m l ∙ ap (λ x. x + total k.inputs (λ x. weigh_log (kept k h) (taken x es))) (plain_taken (kept k h) m pl) ∙ omega arith);
      owned = r.owned;
      orderly = λ o j q. r.orderly (taken_orderly p.window.time (λ x. taken x es) k.inputs i m l o).0 j q;
    }

rows_step : (p : PlanData) (k : AbstractTask) (es : List Event) (s : State) (i : ℕ) (t : Table) → i < k.inputs → s.pending ≡ [] → Relays p k es s
    → Relays p k (Take i (Rows t) ∷ es) (record s { cursor = next_cursor k.outputs s.cursor (filter k.keeps t.rows); taken = s.taken + length t.rows; pending = route p.window.key k s.cursor t })
rows_step p k es s i t l e r =
    let G : ℕ → List Message = λ j. given j es s in
    let c = s.cursor in
    let key = p.window.key in
    let rs : List Record = t.rows in
    let part_of : ℕ → List Message = λ j. batch t.width (part key k.routing c (filter k.keeps rs) j) in
    let new : State = record s { cursor = next_cursor k.outputs s.cursor (filter k.keeps t.rows); taken = s.taken + length t.rows; pending = route p.window.key k s.cursor t } in
    let same : (j : ℕ) → j < k.outputs → given j (Take i (Rows t) ∷ es) new ≡ onto (part_of j) (G j) = λ j q. given_spread k.outputs part_of j (sent j es) s.pending e q in
    record {
      length_marks = r.length_marks;
      cursor = reaches_next k.routing k.outputs c (filter k.keeps rs) r.cursor;
      marks = λ x q. r.marks x q ∙ sym (taken_mark x i (Rows t) (taken x es) refl);
      said = λ j q. ap mark_of (same j q) ∙ mark_batch t.width (part key k.routing c (filter k.keeps rs) j) (G j) ∙ r.said j q;
      flow = λ h. total_same k.outputs _ _ (λ j q. ap (weigh_log h) (same j q)) ∙ rows_flow h key t.width k c rs G r.cursor ∙ ap (λ x. weigh (kept k h) rs + x) (r.flow h)
          ∙ sym (taken_weigh (kept k h) (λ x. taken x es) k.inputs i (Rows t) l);
      owned = λ h j q n. ap (weigh_log h) (same j q) ∙ rows_owned h key t.width k c j rs (G j) n (r.owned h j q n);
      orderly = λ o j q.
          let both = taken_orderly p.window.time (λ x. taken x es) k.inputs i (Rows t) l o in
          let il : i < length s.inputs.marks = rw r.length_marks l in
          let le = least_le s.inputs.marks i il in
          let mi = r.marks i l in
          let sj = r.said j q in
          subst (IsOrderly p.window.time) (sym (same j q)) (rows_orderly p.window.time key t.width k c j (mark_of (taken i es)) rs (G j) (omega (arith, ints, le, mi, sj)) both.1 (r.orderly both.0 j q));
    }

mark_step : (p : PlanData) (k : AbstractTask) (es : List Event) (s : State) (i : ℕ) (t : ℤ) → i < k.inputs → s.pending ≡ [] → Relays p k es s
    → Relays p k (Take i (Watermark t) ∷ es) (record s { inputs = with_mark s i t; pending = announce k.outputs (rise s.inputs.marks i t) })
mark_step p k es s i t l e r =
    let G : ℕ → List Message = λ j. given j es s in
    let ms : List ℤ = s.inputs.marks in
    let old = least ms in
    let low = least (raised ms i t) in
    let new : State = record s { inputs = with_mark s i t; pending = announce k.outputs (rise s.inputs.marks i t) } in
    let same : (j : ℕ) → j < k.outputs → given j (Take i (Watermark t) ∷ es) new ≡ onto (told (risen old low)) (G j) = λ j q.
    ap (λ x. onto x (sent j es)) (only_announce k.outputs (risen old low) j q) ∙ ap (λ q. onto (told (risen old low)) (onto (only j q) (sent j es))) (sym e) in
    let up : old ≤ℤ low = least_raised ms i t in
    record {
      length_marks = length-set ms i (int_max (get_or ms i (pos 0)) t) ∙ r.length_marks;
      cursor = r.cursor;
      marks = λ x q. raised_marks (λ x. taken x es) k.inputs i t ms r.length_marks l r.marks x q;
      said = λ j q. ap mark_of (same j q) ∙ mark_announced old low (G j) (r.said j q) up;
      flow = λ h. total_same k.outputs _ _ (λ j q. ap (weigh_log h) (same j q) ∙ weigh_told h (risen old low) (G j)) ∙ r.flow h
          ∙ sym (taken_weigh (kept k h) (λ x. taken x es) k.inputs i (Watermark t) l ∙ omega arith);
      owned = λ h j q n. ap (weigh_log h) (same j q) ∙ weigh_told h (risen old low) (G j) ∙ r.owned h j q n;
      orderly = λ o j q. subst (IsOrderly p.window.time) (sym (same j q)) (orderly_told p.window.time (risen old low) (G j) (r.orderly (taken_orderly p.window.time (λ x. taken x es) k.inputs i (Watermark t) l o).0 j q));
    }

relays_step : (p : PlanData) (k : AbstractTask) → k.role ≡ Chain → (es : List Event) (s : State) (e : Event) (s' : State) → LocalStep p k s e s' → Relays p k es s → Relays p k (e ∷ es) s'
relays_step p k c es s e s' (put {j = j} {m = m} {rest = rest} is) r = relays_put p k es s j m rest is r
relays_step p k c es s e s' (chain_rows {i = i} {t = t} a takes) r = rows_step p k es s i t takes.can.input takes.can.idle r
relays_step p k c es s e s' (chain_mark {i = i} {t = t} a takes) r = mark_step p k es s i t takes.can.input takes.can.idle r
relays_step p k c es s e s' (holds {i = i} {n = n} takes is) r = quiet_step p k es s i (Barrier n) (set s.inputs.shut i Held) takes.can.input tt r
relays_step p k c es s e s' (aligns {i = i} {n = n} takes is) r = plain_step p k es s i (Barrier n) (Barrier (k.first + s.next)) _ _ _ _ takes.can.input takes.can.idle tt tt r
relays_step p k c es s e s' (ends {i = i} takes is) r = quiet_step p k es s i End (set s.inputs.shut i Ended) takes.can.input tt r
relays_step p k c es s e s' (ends_all {i = i} takes is) r = plain_step p k es s i End End _ _ _ _ takes.can.input takes.can.idle tt tt r
relays_step p k c es s e s' (ends_aligned {i = i} takes is) r = plain_step p k es s i End (Barrier (k.first + s.next)) _ _ _ _ takes.can.input takes.can.idle tt tt r
relays_step p k c es s e s' (opens can) r = absurd (let a = can.source in cc)
relays_step p k c es s e s' (reads own) r = absurd (let a = own.can.can.source in cc)
relays_step p k c es s e s' (saves can may) r = absurd (let a = can.source in cc)
relays_step p k c es s e s' (stops can may) r = absurd (let a = can.source in cc)
relays_step p k c es s e s' (closes can may) r = absurd (let a = can.source in cc)
relays_step p k c es s e s' (window_rows a takes added) r = absurd cc
relays_step p k c es s e s' (window_mark rows a takes fires) r = absurd cc
relays_step p k c es s e s' (sink_rows a takes) r = absurd cc
relays_step p k c es s e s' (sink_mark a takes) r = absurd cc

-- a task of a chain as it starts
pub record IsFresh (k : AbstractTask) (s : State) : Type 0 where
  pub pending : s.pending ≡ []
  pub marks : s.inputs.marks ≡ replicate k.inputs lowest
  pub some : 0 < k.inputs
  pub cursor : Reaches k.routing k.outputs s.cursor

relays_fresh : (p : PlanData) (k : AbstractTask) (s : State) → IsFresh k s → Relays p k [] s
relays_fresh p k s f =
    let empty : (j : ℕ) → given j [] s ≡ [] = λ j. ap (λ p. onto (only j p) []) f.pending in
    record {
      length_marks = ap length f.marks ∙ length-replicate k.inputs lowest;
      cursor = f.cursor;
      marks = λ i l. ap (λ ms. get_or ms i (pos 0)) f.marks ∙ get_none k.inputs i l;
      said = λ j l. ap mark_of (empty j) ∙ sym (ap least f.marks ∙ least_none k.inputs f.some);
      flow = λ h. total_same k.outputs _ (λ j. 0) (λ j l. ap (weigh_log h) (empty j)) ∙ total_none k.outputs ∙ sym (total_none k.inputs);
      owned = λ h j l n. ap (weigh_log h) (empty j);
      orderly = λ o j l. subst (IsOrderly p.window.time) (sym (empty j)) tt;
    }

pub relays : (p : PlanData) (k : AbstractTask) → k.role ≡ Chain → (from : State) → IsFresh k from → {es : List Event} {s : State} → Run p k from es s → Relays p k es s
relays p k c from f none = relays_fresh p k from f
relays p k c from f (more {es = es} {s = s} {e = e} {s' = s'} run st) = relays_step p k c es s e s' st (relays p k c from f run)
