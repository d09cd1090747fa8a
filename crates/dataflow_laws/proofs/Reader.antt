-- What a source does to the logs of its rings.
use Rattle.std.proofs.Common.{◌≡◌, ℕ, suc, ◌+◌, ◌<◌, ◌≤◌, List, [], ◌∷◌, ◌++◌, Bool, true, false, cond, eqb, length, get_or, set, refl, sym, ap, subst, ◌∙◌, inl, inr, arith, length-set, get_or-set_same, get_or-set_other, ℤ, pos, ◌≤ℤ◌, ◌<ℤ◌}
use Rattle.std.specs.Int.{int_max}
use Rattle.std.proofs.lemmas.Bool.{cases_eq, cases_Bool, eq-eqb, ne_eqb, false≢true}
use Rattle.std.proofs.lemmas.Int.{ints, clamps}
use Rattle.std.specs.List.{filter, All}
use Rattle.plain_data.specs.Record.{Record, at}
use Rattle.plain_data.specs.Times.{lowest}
use Rattle.plan_model.specs.PlanData.{PlanData}
use Rattle.input_state.specs.Inputs.{least, raised, risen, rise}
use Rattle.dataflow_model.specs.declared.message.Message.{Message}
use Rattle.dataflow_model.specs.declared.message.Message.TheVariants.{Rows, Fired, Watermark, Barrier, End}
use Rattle.dataflow_model.specs.declared.role.Role.TheVariants.{Source}
use Rattle.dataflow_model.specs.Message.{records_of}
use Rattle.dataflow_model.specs.AbstractTask.{AbstractTask, Routing, Whole, Split}
use Rattle.dataflow_model.specs.State.{State, Kept}
use Rattle.dataflow_model.specs.Routes.{batch, part, next_cursor, route_of, to_all, announce}
use Rattle.dataflow_model.specs.Cuts.{IsOrderlySource}
use Rattle.dataflow_model.specs.Steps.{Event, Open, Read, Save, Stop, Close, Put, LocalStep, with_mark}
use Rattle.dataflow_model.specs.Steps.LocalStep.{put, opens, reads, saves, stops, closes, chain_rows, chain_mark, window_rows, window_mark, sink_rows, sink_mark, holds, aligns, ends, ends_all, ends_aligned}
use Rattle.dataflow_model.specs.Runs.{Run, sent, only, onto, given}
use Rattle.dataflow_model.specs.Runs.Run.{none, more}
use Rattle.dataflow_laws.proofs.Streams.{weigh, weigh_message, weigh_log, mark_of, late, IsOrderly, Owns, Reaches, IsPlain, told}
use Rattle.dataflow_laws.proofs.Logs.{only_announce, onto_append, mark_batch, weigh_plain, mark_plain, orderly_plain, weigh_told, orderly_told, mark_announced, weigh_of}
use Rattle.dataflow_laws.proofs.Relay.{least_le, least_raised, kept, rows_flow, rows_owned, rows_orderly, reaches_next}
use Rattle.dataflow_model.specs.Sums.{total}
use Rattle.dataflow_model.proofs.Facts.{given_put, given_spread, only_append, only_spread, total_add, total_at, total_none, total_same, no_source}

-- the weight of a partition's records before entry n
abbrev pub below : (Record → ℕ) → (ℕ → Message) → ℕ → ℕ
below h entry n = total n (λ x. weigh_message h (entry x))

-- what is known of a source after its steps
pub record HasRead (p : PlanData) (k : AbstractTask) (start : State) (es : List Event) (s : State) : Type 0 where
  pub length_marks : length s.inputs.marks ≡ k.inputs
  pub length_offsets : length s.offsets ≡ k.inputs
  pub cursor : Reaches k.routing k.outputs s.cursor
  pub marks : (q : ℕ) → q < k.inputs → get_or s.inputs.marks q (pos 0) ≡ k.watermark q (get_or s.offsets q 0)
  pub within : (q : ℕ) → q < k.inputs → get_or s.offsets q 0 ≤ k.limit k.saves q
  pub grows : (q : ℕ) → get_or start.offsets q 0 ≤ get_or s.offsets q 0
  pub next : s.over ≡ false → s.next ≤ k.saves
  pub said : (j : ℕ) → j < k.outputs → mark_of (given j es s) ≡ cond s.opened (least s.inputs.marks) lowest
  pub flow : (h : Record → ℕ) → total k.outputs (λ j. weigh_log h (given j es s)) + total k.inputs (λ q. below (kept k h) (k.entry q) (get_or start.offsets q 0)) ≡ total k.inputs (λ q. below (kept k h) (k.entry q) (get_or s.offsets q 0))
  pub owned : (h : Record → ℕ) (j : ℕ) → j < k.outputs → ((r : Record) → Owns p.window.key k.routing j r → h r ≡ 0) → weigh_log h (given j es s) ≡ 0
  pub orderly : (j : ℕ) → j < k.outputs → IsOrderly p.window.time (given j es s)

-- one more entry read
below_more : (f : ℕ → ℕ → ℕ) (n q : ℕ) (offs : List ℕ) → length offs ≡ n → q < n → total n (λ p. total (get_or (set offs q (suc (get_or offs q 0))) p 0) (f p)) ≡ f q (get_or offs q 0) + total n (λ p. total (get_or offs p 0) (f p))
below_more f n q offs e l =
    let ql : q < length offs = omega arith in
    total_same n _ (λ p. cond (eqb p q) (f q (get_or offs q 0)) 0 + total (get_or offs p 0) (f p)) (λ p m. elim (cases_eq p q) [
      | inl u ↦ (let d = eq-eqb p q u in rw d (rw u (ap (λ x. total x (f q)) (get_or-set_same offs q (suc (get_or offs q 0)) 0 ql))))
      | inr u ↦ (let d = ne_eqb p q u in rw d (ap (λ x. total x (f p)) (get_or-set_other offs q p (suc (get_or offs q 0)) 0 u) ∙ omega arith))
    ])
    ∙ total_add n (λ p. cond (eqb p q) (f q (get_or offs q 0)) 0) (λ p. total (get_or offs p 0) (f p))
    ∙ ap (λ x. x + total n (λ p. total (get_or offs p 0) (f p))) (total_at n q (f q (get_or offs q 0)) l)

-- records none of which is late weigh nothing by lateness
pub not_late : (c : ℕ) (w : ℤ) (rs : List Record) → All (λ r. w <ℤ at c r) rs → weigh (late c w) rs ≡ 0
not_late c w [] a = refl
not_late c w (r ∷ rs) a =
    let h : w <ℤ at c r = a 0 r (omega arith) in
    let e : late c w r ≡ 0 = grind (arith, ints, h) in
    omega (arith, e, not_late c w rs (λ n d l. a (suc n) d (omega arith)))

-- what a source sends of an entry, as of its records
pub width_of : Message → ℕ
width_of (Rows t) = t.width
width_of (Fired rows) = 0
width_of (Watermark t) = 0
width_of (Barrier n) = 0
width_of End = 0

part_nil : (key : ℕ) (routing : Routing) (c j : ℕ) → part key routing c [] j ≡ []
part_nil key Whole c j = elim (cases_Bool (eqb j c)) [ inl e ↦ rw e refl | inr e ↦ rw e refl ]
part_nil key (Split owner) c j = refl

nothing_sent : (key : ℕ) (k : AbstractTask) (c j : ℕ) (log : List Message) → log ≡ onto (batch 0 (part key k.routing c [] j)) log
nothing_sent key k c j log = ap (λ xs. onto (batch 0 xs) log) (sym (part_nil key k.routing c j))

pub only_route_of : (key : ℕ) (k : AbstractTask) (c : ℕ) (m : Message) (j : ℕ) (log : List Message) → j < k.outputs → onto (only j (route_of key k c m)) log ≡ onto (batch (width_of m) (part key k.routing c (filter k.keeps (records_of m)) j)) log
unfolding width_of
only_route_of key k c (Rows t) j log l = ap (λ x. onto x log) (only_spread k.outputs (λ j. batch t.width (part key k.routing c (filter k.keeps t.rows) j)) j l)
only_route_of key k c (Fired rows) j log l = nothing_sent key k c j log
only_route_of key k c (Watermark t) j log l = nothing_sent key k c j log
only_route_of key k c (Barrier n) j log l = nothing_sent key k c j log
only_route_of key k c End j log l = nothing_sent key k c j log

-- a source as it starts
pub record IsReady (k : AbstractTask) (s : State) : Type 0 where
  pub pending : s.pending ≡ []
  pub opened : s.opened ≡ false
  pub next : s.next ≡ 0
  pub length_marks : length s.inputs.marks ≡ k.inputs
  pub length_offsets : length s.offsets ≡ k.inputs
  pub marks : (q : ℕ) → q < k.inputs → get_or s.inputs.marks q (pos 0) ≡ k.watermark q (get_or s.offsets q 0)
  pub within : (q : ℕ) → q < k.inputs → get_or s.offsets q 0 ≤ k.limit k.saves q
  pub cursor : Reaches k.routing k.outputs s.cursor

module _ (p : PlanData) (k : AbstractTask) (start : State) (ok : IsOrderlySource p k) (limits : (m q : ℕ) → q < k.inputs → m ≤ k.saves → (k.limit m q ≤ k.limit k.saves q) × (k.limit k.saves q ≤ k.size q)) where
  reads_put : (es : List Event) (s : State) (i : ℕ) (m : Message) (rest : List (ℕ × Message)) → s.pending ≡ (i, m) ∷ rest → HasRead p k start es s → HasRead p k start (Put i m ∷ es) (record s { pending = rest })
  reads_put es s i m rest e r =
      let same : (j : ℕ) → given j (Put i m ∷ es) (record s { pending = rest }) ≡ given j es s = λ j. given_put j i m rest (sent j es) ∙ ap (λ p. onto (only j p) (sent j es)) (sym e) in
      record {
        length_marks = r.length_marks;
        length_offsets = r.length_offsets;
        cursor = r.cursor;
        marks = r.marks;
        within = r.within;
        grows = r.grows;
        next = r.next;
        said = λ j l. ap mark_of (same j) ∙ r.said j l;
        flow = λ h. ap (λ x. x + total k.inputs (λ p. below (kept k h) (k.entry p) (get_or start.offsets p 0))) (total_same k.outputs _ _ (λ j l. ap (weigh_log h) (same j))) ∙ r.flow h;
        owned = λ h j l n. ap (weigh_log h) (same j) ∙ r.owned h j l n;
        orderly = λ j l. subst (IsOrderly p.window.time) (sym (same j)) (r.orderly j l);
      }

  -- every watermark of a source is at least the least of all
  low_marks : (es : List Event) (s : State) → HasRead p k start es s → lowest ≤ℤ least s.inputs.marks
  low_marks es s r = from_marks s.inputs.marks (λ i l.
      let ik : i < k.inputs = omega (arith, r.length_marks) in
      let m = r.marks i ik in
      let b = ok.bounded i (get_or s.offsets i 0) ik (let a = r.within i ik in let c = limits 0 i ik (omega arith) in omega (arith, a, c)) in
      omega (arith, ints, m, b))
    where
      from_marks : (ms : List ℤ) → ((i : ℕ) → i < length ms → lowest ≤ℤ get_or ms i (pos 0)) → lowest ≤ℤ least ms
      from_marks [] h = omega (arith, ints)
      from_marks (x ∷ ms) h = let a : lowest ≤ℤ x = h 0 (omega arith) in let b = from_marks ms (λ i l. h (suc i) (omega arith)) in omega (arith, ints, clamps, a, b)

  reads_open : (es : List Event) (s : State) → s.pending ≡ [] → s.opened ≡ false → HasRead p k start es s → HasRead p k start (Open ∷ es) (record s { opened = true; pending = announce k.outputs (risen lowest (least s.inputs.marks)) })
  reads_open es s e o r =
      let G : ℕ → List Message = λ j. given j es s in
      let low = least s.inputs.marks in
      let new : State = record s { opened = true; pending = announce k.outputs (risen lowest (least s.inputs.marks)) } in
      let same : (j : ℕ) → j < k.outputs → given j (Open ∷ es) new ≡ onto (told (risen lowest low)) (G j) = λ j q.
      ap (λ x. onto x (sent j es)) (only_announce k.outputs (risen lowest low) j q) ∙ ap (λ q. onto (told (risen lowest low)) (onto (only j q) (sent j es))) (sym e) in
      record {
        length_marks = r.length_marks;
        length_offsets = r.length_offsets;
        cursor = r.cursor;
        marks = r.marks;
        within = r.within;
        grows = r.grows;
        next = r.next;
        said = λ j q. ap mark_of (same j q) ∙ mark_announced lowest low (G j) (r.said j q ∙ ap (λ x. cond x low lowest) o) (low_marks es s r);
        flow = λ h. ap (λ x. x + total k.inputs (λ p. below (kept k h) (k.entry p) (get_or start.offsets p 0))) (total_same k.outputs _ _ (λ j l. ap (weigh_log h) (same j l) ∙ weigh_told h (risen lowest low) (G j))) ∙ r.flow h;
        owned = λ h j l n. ap (weigh_log h) (same j l) ∙ weigh_told h (risen lowest low) (G j) ∙ r.owned h j l n;
        orderly = λ j l. subst (IsOrderly p.window.time) (sym (same j l)) (orderly_told p.window.time (risen lowest low) (G j) (r.orderly j l));
      }

  reads_plain : (es : List Event) (s : State) (e : Event) (m : Message) (over : Bool) (next : ℕ) (keep : List Kept) → ((j : ℕ) → sent j (e ∷ es) ≡ sent j es) → s.pending ≡ [] → IsPlain m → (over ≡ false → next ≤ k.saves) → HasRead p k start es s → HasRead p k start (e ∷ es) (record s { over = over; next = next; kept = keep; pending = to_all k.outputs m })
  reads_plain es s e m over next keep un idle pl few r =
      let G : ℕ → List Message = λ j. given j es s in
      let new : State = record s { over = over; next = next; kept = keep; pending = to_all k.outputs m } in
      let same : (j : ℕ) → j < k.outputs → given j (e ∷ es) new ≡ m ∷ G j = λ j q. ap (onto (only j (to_all k.outputs m))) (un j) ∙ given_spread k.outputs (λ j. m ∷ []) j (sent j es) s.pending idle q in
      record {
        length_marks = r.length_marks;
        length_offsets = r.length_offsets;
        cursor = r.cursor;
        marks = r.marks;
        within = r.within;
        grows = r.grows;
        next = few;
        said = λ j q. ap mark_of (same j q) ∙ mark_plain m (G j) pl ∙ r.said j q;
        flow = λ h. ap (λ x. x + total k.inputs (λ p. below (kept k h) (k.entry p) (get_or start.offsets p 0))) (total_same k.outputs _ _ (λ j l. ap (weigh_log h) (same j l) ∙ weigh_plain h m (G j) pl)) ∙ r.flow h;
        owned = λ h j l n. ap (weigh_log h) (same j l) ∙ weigh_plain h m (G j) pl ∙ r.owned h j l n;
        orderly = λ j l. subst (IsOrderly p.window.time) (sym (same j l)) (orderly_plain p.window.time m (G j) pl (r.orderly j l));
      }

  -- the watermarks of the partitions after one more entry
  marks_more : (q : ℕ) (ms : List ℤ) (offs : List ℕ) → length ms ≡ k.inputs → length offs ≡ k.inputs → q < k.inputs → get_or offs q 0 < k.size q → ((x : ℕ) → x < k.inputs → get_or ms x (pos 0) ≡ k.watermark x (get_or offs x 0))
      → (x : ℕ) → x < k.inputs → get_or (raised ms q (k.brings q (get_or offs q 0))) x (pos 0) ≡ k.watermark x (get_or (set offs q (suc (get_or offs q 0))) x 0)
  marks_more q ms offs el eo l lim h x a =
      let off = get_or offs q 0 in
      let top : ℤ = int_max (get_or ms q (pos 0)) (k.brings q off) in
      let ml : q < length ms = omega arith in
      let ol : q < length offs = omega arith in
      elim (cases_eq x q) [
        | inl u ↦ rw u (get_or-set_same ms q top (pos 0) ml ∙ ap (λ v. int_max v (k.brings q off)) (h q l) ∙ sym (ok.moves q off l lim) ∙ ap (k.watermark q) (sym (get_or-set_same offs q (suc off) 0 ol)))
        | inr u ↦ get_or-set_other ms q x top (pos 0) u ∙ h x a ∙ ap (k.watermark x) (sym (get_or-set_other offs q x (suc off) 0 u))
      ]

  reads_entry : (es : List Event) (s : State) (n q : ℕ) → s.pending ≡ [] → s.opened ≡ true → q < k.inputs → get_or s.offsets q 0 < k.limit k.saves q → HasRead p k start es s
      → HasRead p k start (Read n ∷ es) (record s {
        offsets = set s.offsets q (suc (get_or s.offsets q 0));
        inputs = with_mark s q (k.brings q (get_or s.offsets q 0));
        cursor = next_cursor k.outputs s.cursor (filter k.keeps (records_of (k.entry q (get_or s.offsets q 0))));
        pending = route_of p.window.key k s.cursor (k.entry q (get_or s.offsets q 0)) ++ announce k.outputs (rise s.inputs.marks q (k.brings q (get_or s.offsets q 0)));
      })
  unfolding width_of
  reads_entry es s n q idle op l most r =
      let lim : get_or s.offsets q 0 < k.size q = (let c = limits 0 q l (omega arith) in omega (arith, most, c)) in
      let G : ℕ → List Message = λ j. given j es s in
      let key = p.window.key in
      let off = get_or s.offsets q 0 in
      let m : Message = k.entry q off in
      let rs : List Record = records_of m in
      let ms : List ℤ = s.inputs.marks in
      let low = least ms in
      let high = least (raised ms q (k.brings q off)) in
      let rows : ℕ → List Message = λ j. batch (width_of m) (part key k.routing s.cursor (filter k.keeps rs) j) in
      let said : List Message = told (risen low high) in
      let out : List (ℕ × Message) = route_of key k s.cursor m in
      let tell : List (ℕ × Message) = announce k.outputs (risen low high) in
      let new : State = record s {
        offsets = set s.offsets q (suc (get_or s.offsets q 0));
        inputs = with_mark s q (k.brings q (get_or s.offsets q 0));
        cursor = next_cursor k.outputs s.cursor (filter k.keeps (records_of (k.entry q (get_or s.offsets q 0))));
        pending = route_of p.window.key k s.cursor (k.entry q (get_or s.offsets q 0)) ++ announce k.outputs (rise s.inputs.marks q (k.brings q (get_or s.offsets q 0)));
      } in
      let ml : q < length ms = (rw r.length_marks l) in
      let ol : q < length s.offsets = (rw r.length_offsets l) in
      let mq = r.marks q l in
      let up : low ≤ℤ high = least_raised ms q (k.brings q off) in
      let same : (j : ℕ) → j < k.outputs → given j (Read n ∷ es) new ≡ onto said (onto (rows j) (G j)) = λ j a.
      ap (λ ms. onto ms (sent j es)) (only_append j out tell) ∙ onto_append (only j out) (only j tell) (sent j es)
      ∙ ap (λ ms. onto ms (onto (only j out) (sent j es))) (only_announce k.outputs (risen low high) j a)
      ∙ ap (onto said) (only_route_of key k s.cursor m j (sent j es) a ∙ ap (λ q. onto (rows j) (onto (only j q) (sent j es))) (sym idle)) in
      let was : (j : ℕ) → j < k.outputs → mark_of (onto (rows j) (G j)) ≡ low = λ j a. mark_batch (width_of m) (part key k.routing s.cursor (filter k.keeps rs) j) (G j) ∙ r.said j a ∙ ap (λ x. cond x low lowest) op in
      let le = least_le ms q ml in
      let fresh : weigh (late p.window.time (k.watermark q off)) rs ≡ 0 = not_late p.window.time (k.watermark q off) rs (ok.late q off l lim) in
      record {
        length_marks = length-set ms q (int_max (get_or ms q (pos 0)) (k.brings q off)) ∙ r.length_marks;
        length_offsets = length-set s.offsets q (suc off) ∙ r.length_offsets;
        cursor = reaches_next k.routing k.outputs s.cursor (filter k.keeps rs) r.cursor;
        marks = marks_more q ms s.offsets r.length_marks r.length_offsets l lim r.marks;
        within = λ x a. elim (cases_eq x q) [
          | inl u ↦ rw u (let e = get_or-set_same s.offsets q (suc off) 0 ol in omega (arith, e, most))
          | inr u ↦ (let e = get_or-set_other s.offsets q x (suc off) 0 u in let w = r.within x a in omega (arith, e, w))
        ];
        grows = λ x. elim (cases_eq x q) [
          | inl u ↦ rw u (let e = get_or-set_same s.offsets q (suc off) 0 ol in let g = r.grows q in omega (arith, e, g))
          | inr u ↦ (let e = get_or-set_other s.offsets q x (suc off) 0 u in let g = r.grows x in omega (arith, e, g))
        ];
        next = r.next;
        said = λ j a. ap mark_of (same j a) ∙ mark_announced low high (onto (rows j) (G j)) (was j a) up ∙ sym (ap (λ x. cond x high lowest) op);
        flow = λ h.
            let f : ℕ → ℕ → ℕ = λ p x. weigh_message (kept k h) (k.entry p x) in
            let one = total_same k.outputs (λ j. weigh_log h (given j (Read n ∷ es) new)) (λ j. weigh_log h (onto (rows j) (G j))) (λ j a. ap (weigh_log h) (same j a) ∙ weigh_told h (risen low high) (onto (rows j) (G j))) in
            let two = rows_flow h key (width_of m) k s.cursor rs G r.cursor in
            let three = r.flow h in
            let four = below_more f k.inputs q s.offsets r.length_offsets l in
            let five = weigh_of (kept k h) m in
            omega (arith, one, two, three, four, five);
        owned = λ h j a n. ap (weigh_log h) (same j a) ∙ weigh_told h (risen low high) (onto (rows j) (G j)) ∙ rows_owned h key (width_of m) k s.cursor j rs (G j) n (r.owned h j a n);
        orderly = λ j a. subst (IsOrderly p.window.time) (sym (same j a)) (orderly_told p.window.time (risen low high) (onto (rows j) (G j)) (rows_orderly p.window.time key (width_of m) k s.cursor j (k.watermark q off) rs (G j) (let sj = r.said j a ∙ ap (λ x. cond x low lowest) op in omega (arith, ints, le, mq, sj)) fresh (r.orderly j a)));
      }

  reads_step : k.role ≡ Source → (es : List Event) (s : State) (e : Event) (s' : State) → LocalStep p k s e s' → HasRead p k start es s → HasRead p k start (e ∷ es) s'
  reads_step a es s e s' (put {j = j} {m = m} {rest = rest} is) r = reads_put es s j m rest is r
  reads_step a es s e s' (opens can) r = reads_open es s can.idle can.shut r
  reads_step a es s e s' (reads {n = n} {q = q} own) r =
      reads_entry es s n q own.can.can.idle own.can.can.opened own.can.partition (let lm = limits s.next q own.can.partition (r.next own.can.can.going) in let rest = own.can.rest in omega (arith, lm, rest)) r
  reads_step a es s e s' (saves can may) r = reads_plain es s Save (Barrier (k.first + s.next)) _ _ _ (λ j. refl) can.idle tt (λ o. let m = may.0 in omega arith) r
  reads_step a es s e s' (stops can may) r = reads_plain es s Stop (Barrier (k.first + s.next)) _ _ _ (λ j. refl) can.idle tt (λ o. absurd (false≢true (sym o))) r
  reads_step a es s e s' (closes can may) r = reads_plain es s Close End _ _ _ (λ j. refl) can.idle tt (λ o. absurd (false≢true (sym o))) r
  reads_step a es s e s' (chain_rows u takes) r = absurd cc
  reads_step a es s e s' (chain_mark u takes) r = absurd cc
  reads_step a es s e s' (window_rows u takes added) r = absurd cc
  reads_step a es s e s' (window_mark rows u takes fires) r = absurd cc
  reads_step a es s e s' (sink_rows u takes) r = absurd cc
  reads_step a es s e s' (sink_mark u takes) r = absurd cc
  reads_step a es s e s' (holds takes is) r = absurd (no_source k takes.can.taker a)
  reads_step a es s e s' (aligns takes is) r = absurd (no_source k takes.can.taker a)
  reads_step a es s e s' (ends takes is) r = absurd (no_source k takes.can.taker a)
  reads_step a es s e s' (ends_all takes is) r = absurd (no_source k takes.can.taker a)
  reads_step a es s e s' (ends_aligned takes is) r = absurd (no_source k takes.can.taker a)

  reads_fresh : IsReady k start → HasRead p k start [] start
  reads_fresh f =
      let empty : (j : ℕ) → given j [] start ≡ [] = λ j. ap (λ p. onto (only j p) []) f.pending in
      record {
        length_marks = f.length_marks;
        length_offsets = f.length_offsets;
        cursor = f.cursor;
        marks = f.marks;
        within = f.within;
        grows = λ p. omega arith;
        next = λ o. let n = f.next in omega arith;
        said = λ j l. ap mark_of (empty j) ∙ sym (ap (λ x. cond x (least start.inputs.marks) lowest) f.opened);
        flow = λ h. (let z = total_same k.outputs (λ j. weigh_log h (given j [] start)) (λ j. 0) (λ j l. ap (weigh_log h) (empty j)) ∙ total_none k.outputs in omega (arith, z));
        owned = λ h j l n. ap (weigh_log h) (empty j);
        orderly = λ j l. subst (IsOrderly p.window.time) (sym (empty j)) tt;
      }

  pub has_read : k.role ≡ Source → IsReady k start → {es : List Event} {s : State} → Run p k start es s → HasRead p k start es s
  has_read a f none = reads_fresh f
  has_read a f (more {es = es} {s = s} {e = e} {s' = s'} run st) = reads_step a es s e s' st (has_read a f run)
