-- What a window task does: each pane fires once, with all its records.
use Rattle.std.proofs.Common.{◌≡◌, ℕ, ◌+◌, ◌<◌, List, [], ◌∷◌, ◌++◌, Bool, true, false, not, cond, length, get_or, set, replicate, refl, sym, ap, ◌∙◌, inl, inr, arith, length-set, append-nil, Option, Some, None, option_and_then, option_to_list, if◌then◌else◌, ℤ, pos, ◌≤ℤ◌, int_lt, int_le}
use Rattle.std.specs.Int.{int_max}
use Rattle.std.proofs.lemmas.List.{length-replicate}
use Rattle.std.proofs.lemmas.Bool.{cases_Bool}
use Rattle.std.proofs.lemmas.Int.{ints}
use Rattle.std.specs.List.{filter}
use Rattle.std.specs.FinMap.{get, get-retain_keys}
use Rattle.plain_data.specs.Record.{Record}
use Rattle.plain_data.specs.Times.{lowest}
use Rattle.columns.specs.Table.{Table}
use Rattle.plan_model.specs.declared.spec.Pane.{Pane}
use Rattle.plan_model.specs.declared.spec.Row.{Row}
use Rattle.plan_model.specs.declared.spec.WindowSpec.{WindowSpec}
use Rattle.plan_model.specs.PlanData.{PlanData}
use Rattle.plan_model.specs.Aggregates.{Aggregated, merge}
use Rattle.plan_model.specs.Rows.{aggregate_at, is_due, kept_row, row_is_at}
use Rattle.plan_model.proofs.Facts.{pane_cmp-IsAntisymmetric}
use Rattle.input_state.specs.declared.inputs.Shut.{Shut}
use Rattle.input_state.specs.declared.inputs.Shut.TheVariants.{Held, Ended}
use Rattle.input_state.specs.Inputs.{inputs_from, least, raised, risen, rise}
use Rattle.dataflow_model.specs.declared.message.Message.{Message}
use Rattle.dataflow_model.specs.declared.message.Message.TheVariants.{Rows, Watermark, Barrier, End}
use Rattle.dataflow_model.specs.declared.role.Role.TheVariants.{Window}
use Rattle.dataflow_model.specs.Message.{records_of}
use Rattle.dataflow_model.specs.AbstractTask.{AbstractTask}
use Rattle.dataflow_model.specs.State.{Windows, State, Kept}
use Rattle.dataflow_model.specs.Routes.{to_all, announce, fired}
use Rattle.dataflow_model.specs.Steps.{Event, Open, Read, Save, Stop, Close, Take, Put, LocalStep, Fires, with_mark}
use Rattle.dataflow_model.specs.Steps.LocalStep.{put, opens, reads, saves, stops, closes, chain_rows, chain_mark, window_rows, window_mark, sink_rows, sink_mark, holds, aligns, ends, ends_all, ends_aligned}
use Rattle.dataflow_model.specs.Runs.{Run, taken, sent, only, onto, given}
use Rattle.dataflow_model.specs.Runs.Run.{none, more}
use Rattle.dataflow_laws.proofs.Streams.{weigh, mark_of, late, IsOrderly, IsPlain, told}
use Rattle.dataflow_laws.proofs.Logs.{only_announce, onto_append, plain_mark_after, late_none}
use Rattle.dataflow_laws.proofs.Relay.{taken_orderly, taken_mark, least_le, least_raised, raised_marks, least_none, get_none}
use Rattle.dataflow_laws.proofs.Same.{merge_append, merge_nothing, aggregate_nil, nothing_there}
use Rattle.dataflow_laws.proofs.Sinks.{rows_in, rows_log}
use Rattle.dataflow_model.proofs.Facts.{given_put, given_spread, only_append}

-- the records taken, the oldest first
abbrev pub records : List Event → List Record
records [] = []
records (Open ∷ es) = records es
records (Read n ∷ es) = records es
records (Save ∷ es) = records es
records (Stop ∷ es) = records es
records (Close ∷ es) = records es
records (Take i m ∷ es) = records es ++ records_of m
records (Put j m ∷ es) = records es

-- what a pane comes to, from what was restored and the records taken
abbrev pub content : WindowSpec → Windows → List Event → Pane → Option Aggregated
content w restored es q = merge w.aggregates (get restored q) (aggregate_at w (records es) q)

-- the row of what stands in a pane, as a list
abbrev pub row_of : WindowSpec → Pane → Option Aggregated → List Row
row_of w q a = option_to_list (option_and_then (kept_row w q) a)

append_end : (xs : List Row) → xs ++ [] ≡ xs
append_end xs = append-nil xs

rows_onto_plain : (q : Pane) (m : Message) (log : List Message) → rows_in q m ≡ [] → rows_log q (m ∷ log) ≡ rows_log q log
rows_onto_plain q m log e = rw e (append_end (rows_log q log))

rows_onto_told : (q : Pane) (o : Option ℤ) (log : List Message) → rows_log q (onto (told o) log) ≡ rows_log q log
rows_onto_told q None log = refl
rows_onto_told q (Some t) log = append_end (rows_log q log)

rows_onto_fired : (q : Pane) (rows : List Row) (log : List Message) → rows_log q (onto (only 0 (fired rows)) log) ≡ rows_log q log ++ filter (row_is_at q) rows
rows_onto_fired q [] log = sym (append_end (rows_log q log))
rows_onto_fired q (r ∷ rows) log = refl

-- ---- one pane, as records come and as the watermark rises

-- what stands in a pane, and which of its rows were fired, where its records come to c
pub record IsSettled (w : WindowSpec) (q : Pane) (low : ℤ) (x : Option Aggregated) (gave : List Row) (c : Option Aggregated) : Type 0 where
  pub has : x ≡ (if is_due w low q.start then None else c)
  pub rows : gave ≡ (if is_due w low q.start then row_of w q c else [])

settled_rows : (w : WindowSpec) (q : Pane) (low : ℤ) (x : Option Aggregated) (gave : List Row) (c : Option Aggregated) (rs : List Record) → weigh (late w.time low) rs ≡ 0 → IsSettled w q low x gave c
    → IsSettled w q low (merge w.aggregates x (aggregate_at w rs q)) gave (merge w.aggregates c (aggregate_at w rs q))
settled_rows w q low x gave c rs z s =
    let ks = w.aggregates in
    let due : Bool = is_due w low q.start in
    elim (cases_Bool due) [
      | inl d ↦
          (let none = nothing_there w q low rs z d in
          let hx : x ≡ None = s.has ∙ ap (λ t. cond t None c) d in
          record {
            has = merge_nothing ks x (aggregate_at w rs q) none ∙ hx ∙ sym (ap (λ t. cond t None (merge ks c (aggregate_at w rs q))) d);
            rows = s.rows ∙ ap (λ y. cond due (row_of w q y) []) (sym (merge_nothing ks c (aggregate_at w rs q) none));
          })
      | inr d ↦
          (let hx : x ≡ c = s.has ∙ ap (λ t. cond t None c) d in
          record {
            has = ap (λ y. merge ks y (aggregate_at w rs q)) hx ∙ sym (ap (λ t. cond t None (merge ks c (aggregate_at w rs q))) d);
            rows = s.rows ∙ ap (λ t. cond t (row_of w q c) []) d ∙ sym (ap (λ t. cond t (row_of w q (merge ks c (aggregate_at w rs q))) []) d);
          })
    ]

pub later : (a l n : ℤ) → l ≤ℤ n → int_le a l ≡ true → int_le a n ≡ true
later a l n h d = grind (arith, ints)

no_rise : (l n : ℤ) → l ≤ℤ n → int_lt l n ≡ false → l ≡ n
no_rise l n h d = grind (arith, ints)

left_by : (dl dn : Bool) (o c : Option Aggregated) → (dl ≡ true → dn ≡ true) → o ≡ (if dl then None else c) → cond (not dn) o None ≡ (if dn then None else c)
left_by dl true o c up is = refl
left_by true false o c up is = absurd (let h = up refl in cc)
left_by false false o c up is = is

gave_by : (dl dn : Bool) (f : Aggregated → Option Row) (o c : Option Aggregated) → (dl ≡ true → dn ≡ true) → o ≡ (if dl then None else c)
    → (if dl then option_to_list (option_and_then f c) else []) ++ option_to_list (if dn then option_and_then f o else None) ≡ (if dn then option_to_list (option_and_then f c) else [])
gave_by true true f o c up is = ap (λ x. option_to_list (option_and_then f c) ++ option_to_list (option_and_then f x)) is ∙ append-nil (option_to_list (option_and_then f c))
gave_by true false f o c up is = absurd (let h = up refl in cc)
gave_by false true f o c up is = ap (λ x. option_to_list (option_and_then f x)) is
gave_by false false f o c up is = refl

-- a watermark fires what is due, once
settled_mark : (p : PlanData) (q : Pane) (windows left : Windows) (low high : ℤ) (gave rows : List Row) (c : Option Aggregated) (b : Bool) → int_lt low high ≡ b → low ≤ℤ high
    → Fires p windows (if b then Some high else None) rows left → IsSettled p.window q low (get windows q) gave c → IsSettled p.window q high (get left q) (gave ++ filter (row_is_at q) rows) c
settled_mark p q windows left low high gave rows c false e up fires s =
    let same = no_rise low high up e in
    record {
      has = ap (λ w. get w q) fires.1 ∙ s.has ∙ (λ j. if is_due p.window (same j) q.start then None else c);
      rows = ap (λ l. gave ++ filter (row_is_at q) l) fires.0 ∙ append-nil gave ∙ s.rows ∙ (λ j. if is_due p.window (same j) q.start then row_of p.window q c else []);
    }
settled_mark p q windows left low high gave rows c true e up fires s = record {
  has = ap (λ w. get w q) fires.1
      ∙ get-retain_keys windows (λ r. not (is_due p.window high r.start)) q (λ x t. ap (λ (r : Pane). not (is_due p.window high r.start)) (sym (pane_cmp-IsAntisymmetric q x t)))
      ∙ left_by (is_due p.window low q.start) (is_due p.window high q.start) (get windows q) c (later _ low high up) s.has;
  rows = (λ j. s.rows j ++ fires.0 q j)
      ∙ gave_by (is_due p.window low q.start) (is_due p.window high q.start) (kept_row p.window q) (get windows q) c (later _ low high up) s.has;
}

-- a window task as it starts
pub record IsRestored (p : PlanData) (k : AbstractTask) (s : State) : Type 0 where
  pub pending : s.pending ≡ []
  pub marks : s.inputs.marks ≡ replicate k.inputs lowest
  pub some : 0 < k.inputs
  pub windows : (q : Pane) → is_due p.window lowest q.start ≡ true → get s.windows q ≡ None

settled_fresh : (w : WindowSpec) (q : Pane) (low : ℤ) (x : Option Aggregated) → (is_due w low q.start ≡ true → x ≡ None) → IsSettled w q low x [] x
settled_fresh w q low x h =
    elim (cases_Bool (is_due w low q.start)) [
      | inl d ↦ record { has = h d ∙ sym (ap (λ t. cond t None x) d); rows = sym (ap (λ t. cond t (row_of w q x) []) d ∙ ap (row_of w q) (h d)) }
      | inr d ↦ record { has = sym (ap (λ t. cond t None x) d); rows = sym (ap (λ t. cond t (row_of w q x) []) d) }
    ]

-- ---- the steps of a window task

module _ (p : PlanData) (k : AbstractTask) (start : State) where
  -- what is known of a window task after its steps
  pub record HasCounted (es : List Event) (s : State) : Type 0 where
    pub length_marks : length s.inputs.marks ≡ k.inputs
    pub marks : (i : ℕ) → i < k.inputs → get_or s.inputs.marks i (pos 0) ≡ mark_of (taken i es)
    pub settled : ((i : ℕ) → i < k.inputs → IsOrderly p.window.time (taken i es)) → (q : Pane) → IsSettled p.window q (least s.inputs.marks) (get s.windows q) (rows_log q (given 0 es s)) (content p.window start.windows es q)

  window_put : (es : List Event) (s : State) (j : ℕ) (m : Message) (rest : List (ℕ × Message)) → s.pending ≡ (j, m) ∷ rest → HasCounted es s → HasCounted (Put j m ∷ es) (record s { pending = rest })
  window_put es s j m rest e w =
      let same : given 0 (Put j m ∷ es) (record s { pending = rest }) ≡ given 0 es s = given_put 0 j m rest (sent 0 es) ∙ ap (λ p. onto (only 0 p) (sent 0 es)) (sym e) in
      record {
        length_marks = w.length_marks;
        marks = w.marks;
        settled = λ o q. let old = w.settled o q in record { has = old.has; rows = ap (rows_log q) same ∙ old.rows };
      }

  -- a message without records leaves what panes come to
  same_content : (es : List Event) (i : ℕ) (m : Message) → records_of m ≡ [] → (q : Pane) → content p.window start.windows (Take i m ∷ es) q ≡ content p.window start.windows es q
  same_content es i m rm q = ap (λ rs. merge p.window.aggregates (get start.windows q) (aggregate_at p.window rs q)) (ap (λ x. records es ++ x) rm ∙ append-nil (records es))

  settled_by : (q : Pane) (low : ℤ) (x : Option Aggregated) (gave gave' : List Row) (c c' : Option Aggregated) → gave' ≡ gave → c' ≡ c → IsSettled p.window q low x gave c → IsSettled p.window q low x gave' c'
  settled_by q low x gave gave' c c' eg ec s = record {
    has = s.has ∙ ap (λ y. cond (is_due p.window low q.start) None y) (sym ec);
    rows = eg ∙ s.rows ∙ ap (λ y. cond (is_due p.window low q.start) (row_of p.window q y) []) (sym ec);
  }

  window_plain : k.outputs ≡ 1 → (es : List Event) (s : State) (i : ℕ) (m m' : Message) (shut : List Shut) (over : Bool) (next : ℕ) (keep : List Kept) → i < k.inputs → s.pending ≡ [] → IsPlain m → records_of m ≡ [] → ((q : Pane) → rows_in q m' ≡ []) → HasCounted es s
      → HasCounted (Take i m ∷ es) (record s { inputs = inputs_from s.inputs.marks shut; over = over; next = next; kept = keep; pending = to_all k.outputs m' })
  window_plain o es s i m m' shut over next keep l e pl rm rm' w =
      let new : State = record s { inputs = inputs_from s.inputs.marks shut; over = over; next = next; kept = keep; pending = to_all k.outputs m' } in
      let same : given 0 (Take i m ∷ es) new ≡ m' ∷ given 0 es s = given_spread k.outputs (λ j. m' ∷ []) 0 (sent 0 es) s.pending e (omega arith) in
      record {
        length_marks = w.length_marks;
        marks = λ x q. w.marks x q ∙ sym (taken_mark x i m (taken x es) (plain_mark_after m (mark_of (taken x es)) pl));
        settled = λ or q.
            let old = w.settled (taken_orderly p.window.time (λ x. taken x es) k.inputs i m l or).0 q in
            settled_by q (least s.inputs.marks) (get s.windows q) (rows_log q (given 0 es s)) _ (content p.window start.windows es q) _ (ap (rows_log q) same ∙ rows_onto_plain q m' (given 0 es s) (rm' q)) (same_content es i m rm q) old;
      }

  window_quiet : (es : List Event) (s : State) (i : ℕ) (m : Message) (shut : List Shut) → i < k.inputs → IsPlain m → records_of m ≡ [] → HasCounted es s → HasCounted (Take i m ∷ es) (record s { inputs = inputs_from s.inputs.marks shut })
  window_quiet es s i m shut l pl rm w =
      record {
        length_marks = w.length_marks;
        marks = λ x q. w.marks x q ∙ sym (taken_mark x i m (taken x es) (plain_mark_after m (mark_of (taken x es)) pl));
        settled = λ or q.
            let old = w.settled (taken_orderly p.window.time (λ x. taken x es) k.inputs i m l or).0 q in
            settled_by q (least s.inputs.marks) (get s.windows q) (rows_log q (given 0 es s)) _ (content p.window start.windows es q) _ refl (same_content es i m rm q) old;
      }

  window_took_rows : (es : List Event) (s : State) (i : ℕ) (t : Table) (windows : Windows) → ((q : Pane) → get windows q ≡ merge p.window.aggregates (get s.windows q) (aggregate_at p.window t.rows q)) → i < k.inputs → HasCounted es s
      → HasCounted (Take i (Rows t) ∷ es) (record s { taken = s.taken + length t.rows; windows = windows })
  window_took_rows es s i t windows added l w =
      record {
        length_marks = w.length_marks;
        marks = λ x q. w.marks x q ∙ sym (taken_mark x i (Rows t) (taken x es) refl);
        settled = λ or q.
            let both = taken_orderly p.window.time (λ x. taken x es) k.inputs i (Rows t) l or in
            let low = least s.inputs.marks in
            let il : i < length s.inputs.marks = rw w.length_marks l in
            let le = least_le s.inputs.marks i il in
            let mi = w.marks i l in
            let z : weigh (late p.window.time low) t.rows ≡ 0 = late_none p.window.time low (mark_of (taken i es)) (omega (arith, ints, le, mi)) t.rows both.1 in
            let more = settled_rows p.window q low (get s.windows q) (rows_log q (given 0 es s)) (content p.window start.windows es q) t.rows z (w.settled both.0 q) in
            let ec = merge_append p.window q (get start.windows q) (records es) t.rows in
            record {
              has = added q ∙ more.has ∙ ap (λ y. cond (is_due p.window low q.start) None y) (sym ec);
              rows = more.rows ∙ ap (λ y. cond (is_due p.window low q.start) (row_of p.window q y) []) (sym ec);
            };
      }

  window_took_mark : k.outputs ≡ 1 → (es : List Event) (s : State) (i : ℕ) (t : ℤ) (rows : List Row) (left : Windows) → Fires p s.windows (rise s.inputs.marks i t) rows left → i < k.inputs → s.pending ≡ [] → HasCounted es s
      → HasCounted (Take i (Watermark t) ∷ es) (record s { inputs = with_mark s i t; windows = left; pending = fired rows ++ announce k.outputs (rise s.inputs.marks i t) })
  window_took_mark o es s i t rows left fires l e w =
      let ms : List ℤ = s.inputs.marks in
      let low = least ms in
      let high = least (raised ms i t) in
      let new : State = record s { inputs = with_mark s i t; windows = left; pending = fired rows ++ announce k.outputs (rise s.inputs.marks i t) } in
      let up : low ≤ℤ high = least_raised ms i t in
      let said : List Message = told (risen low high) in
      let tell : List (ℕ × Message) = announce k.outputs (risen low high) in
      let G = given 0 es s in
      let same : given 0 (Take i (Watermark t) ∷ es) new ≡ onto said (onto (only 0 (fired rows)) G) =
      ap (λ ms. onto ms (sent 0 es)) (only_append 0 (fired rows) tell) ∙ onto_append (only 0 (fired rows)) (only 0 tell) (sent 0 es)
      ∙ ap (λ ms. onto ms (onto (only 0 (fired rows)) (sent 0 es))) (only_announce k.outputs (risen low high) 0 (omega arith))
      ∙ ap (λ q. onto said (onto (only 0 (fired rows)) (onto (only 0 q) (sent 0 es)))) (sym e) in
      record {
        length_marks = length-set ms i (int_max (get_or ms i (pos 0)) t) ∙ w.length_marks;
        marks = λ x q. raised_marks (λ x. taken x es) k.inputs i t ms w.length_marks l w.marks x q;
        settled = λ or q.
            let old = w.settled (taken_orderly p.window.time (λ x. taken x es) k.inputs i (Watermark t) l or).0 q in
            let next = settled_mark p q s.windows left low high (rows_log q G) rows (content p.window start.windows es q) (int_lt low high) refl up fires old in
            settled_by q high (get left q) (rows_log q G ++ filter (row_is_at q) rows) _ (content p.window start.windows es q) _
            (ap (rows_log q) same ∙ rows_onto_told q (risen low high) (onto (only 0 (fired rows)) G) ∙ rows_onto_fired q rows G) (same_content es i (Watermark t) refl q) next;
      }

  window_step : k.role ≡ Window → k.outputs ≡ 1 → (es : List Event) (s : State) (e : Event) (s' : State) → LocalStep p k s e s' → HasCounted es s → HasCounted (e ∷ es) s'
  window_step a o es s e s' (put {j = j} {m = m} {rest = rest} is) w = window_put es s j m rest is w
  window_step a o es s e s' (window_rows {i = i} {t = t} {windows = windows} u takes added) w = window_took_rows es s i t windows added takes.can.input w
  window_step a o es s e s' (window_mark {i = i} {t = t} {left = left} rows u takes fires) w = window_took_mark o es s i t rows left fires takes.can.input takes.can.idle w
  window_step a o es s e s' (holds {i = i} {n = n} takes is) w = window_quiet es s i (Barrier n) (set s.inputs.shut i Held) takes.can.input tt refl w
  window_step a o es s e s' (aligns {i = i} {n = n} takes is) w = window_plain o es s i (Barrier n) (Barrier (k.first + s.next)) _ _ _ _ takes.can.input takes.can.idle tt refl (λ q. refl) w
  window_step a o es s e s' (ends {i = i} takes is) w = window_quiet es s i End (set s.inputs.shut i Ended) takes.can.input tt refl w
  window_step a o es s e s' (ends_all {i = i} takes is) w = window_plain o es s i End End _ _ _ _ takes.can.input takes.can.idle tt refl (λ q. refl) w
  window_step a o es s e s' (ends_aligned {i = i} takes is) w = window_plain o es s i End (Barrier (k.first + s.next)) _ _ _ _ takes.can.input takes.can.idle tt refl (λ q. refl) w
  window_step a o es s e s' (opens can) w = absurd (let u = can.source in cc)
  window_step a o es s e s' (reads own) w = absurd (let u = own.can.can.source in cc)
  window_step a o es s e s' (saves can may) w = absurd (let u = can.source in cc)
  window_step a o es s e s' (stops can may) w = absurd (let u = can.source in cc)
  window_step a o es s e s' (closes can may) w = absurd (let u = can.source in cc)
  window_step a o es s e s' (chain_rows u takes) w = absurd cc
  window_step a o es s e s' (chain_mark u takes) w = absurd cc
  window_step a o es s e s' (sink_rows u takes) w = absurd cc
  window_step a o es s e s' (sink_mark u takes) w = absurd cc

  window_fresh : IsRestored p k start → HasCounted [] start
  window_fresh f =
      let empty : given 0 [] start ≡ [] = ap (λ p. onto (only 0 p) []) f.pending in
      let low : least start.inputs.marks ≡ lowest = ap least f.marks ∙ least_none k.inputs f.some in
      record {
        length_marks = ap length f.marks ∙ length-replicate k.inputs lowest;
        marks = λ i l. ap (λ ms. get_or ms i (pos 0)) f.marks ∙ get_none k.inputs i l;
        settled = λ o q.
            settled_by q (least start.inputs.marks) (get start.windows q) [] _ (get start.windows q) _ (ap (rows_log q) empty)
            (merge_nothing p.window.aggregates (get start.windows q) (aggregate_at p.window [] q) (aggregate_nil p.window q))
            (settled_fresh p.window q (least start.inputs.marks) (get start.windows q) (λ d. f.windows q (sym (ap (λ t. is_due p.window t q.start) low) ∙ d)));
      }

  pub has_counted : k.role ≡ Window → k.outputs ≡ 1 → IsRestored p k start → {es : List Event} {s : State} → Run p k start es s → HasCounted es s
  has_counted a o f none = window_fresh f
  has_counted a o f (more {es = es} {s = s} {e = e} {s' = s'} run st) = window_step a o es s e s' st (has_counted a o f run)
