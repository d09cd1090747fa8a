-- At every moment, what was delivered is part of what is due.
use Rattle.std.proofs.Common.{◌≡◌, ℕ, ◌+◌, ◌-◌, ◌<◌, ◌≤◌, List, [], ◌∷◌, ◌++◌, true, false, cond, length, refl, sym, ap, subst, ◌∙◌, ◌⊎◌, inl, inr, arith, append_assoc, append-nil, Option, Some, None, option_to_list, ℤ, ◌≤ℤ◌}
use Rattle.std.proofs.lemmas.Bool.{cases_eq, cases_Bool, cases_lt, false≢true, eq-eqb, ne_eqb}
use Rattle.std.proofs.lemmas.Int.{ints}
use Rattle.std.specs.List.{filter}
use Rattle.std.specs.FinMap.{get}
use Rattle.plain_data.specs.Record.{Record}
use Rattle.plan_model.specs.declared.spec.Pane.{Pane}
use Rattle.plan_model.specs.declared.spec.Row.{Row}
use Rattle.plan_model.specs.PlanData.{PlanData}
use Rattle.plan_model.specs.Windows.{is_at}
use Rattle.plan_model.specs.Aggregates.{merge}
use Rattle.plan_model.specs.Rows.{aggregate_at, is_due, row_is_at}
use Rattle.plan_model.proofs.Facts.{aggregate_at-append}
use Rattle.dataflow_model.specs.declared.message.Message.{Message}
use Rattle.dataflow_model.specs.declared.role.Role.TheVariants.{Source}
use Rattle.dataflow_model.specs.Message.{records_of}
use Rattle.dataflow_model.specs.AbstractLayout.{AbstractLayout, IsLayout}
use Rattle.dataflow_model.specs.State.{State}
use Rattle.dataflow_model.specs.Runs.{taken, given}
use Rattle.dataflow_model.specs.Cuts.{cut_of, IsMergedWatermark, records_until, aggregate_until, snapshot_until, row_between}
use Rattle.dataflow_model.specs.Flow.{Flow}
use Rattle.dataflow_laws.proofs.Streams.{weigh, weigh_message, weigh_log, mark_of, late, IsOrderly, Owns}
use Rattle.dataflow_laws.proofs.Logs.{weigh_append, weigh_of, weigh_log_append, orderly_ahead}
use Rattle.dataflow_laws.proofs.Relay.{least_le, least_highest}
use Rattle.dataflow_laws.proofs.Windows.{records, content, row_of, later}
use Rattle.dataflow_laws.proofs.Sinks.{rows_in, rows_log, delivered, collected, none_left}
use Rattle.dataflow_laws.proofs.Same.{same_aggregate, aggregate_nil, not_there}
use Rattle.dataflow_laws.proofs.Taken.{taken_past}
use Rattle.dataflow_laws.proofs.Graph.{given_on, taken_on, ahead, read_at, relays_at, windows_at, kind, sender, not_source, orderly_given, orderly_taken, said_chain, low, low_reaches, window_below, arrives, foreign, rested, owned_of}
use Rattle.dataflow_laws.proofs.Legs.{IsBegun, weigh_from, nothing_between, apart, watermark_rises, row_by}

message_from : (g h : Record → ℕ) → ((r : Record) → g r ≡ 0 → h r ≡ 0) → (m : Message) → weigh_message g m ≡ 0 → weigh_message h m ≡ 0
message_from g h f m z = sym (weigh_of h m) ∙ weigh_from g h f (records_of m) (weigh_of g m ∙ z)

log_from : (g h : Record → ℕ) → ((r : Record) → g r ≡ 0 → h r ≡ 0) → (log : List Message) → weigh_log g log ≡ 0 → weigh_log h log ≡ 0
log_from g h f [] z = refl
log_from g h f (m ∷ log) z = let a = message_from g h f m (omega (arith, z)) in let c = log_from g h f log (omega (arith, z)) in omega (arith, a, c)

rows_log_append : (q : Pane) (xs ys : List Message) → rows_log q (xs ++ ys) ≡ rows_log q ys ++ rows_log q xs
rows_log_append q [] ys = sym (append-nil (rows_log q ys))
rows_log_append q (x ∷ xs) ys = ap (λ l. l ++ rows_in q x) (rows_log_append q xs ys) ∙ append_assoc (rows_log q ys) (rows_log q xs) (rows_in q x)

-- the front of a list of one row or none
front_of : (xs ys : List Row) (o : Option Row) → xs ++ ys ≡ option_to_list o → (xs ≡ []) ⊎ (xs ≡ option_to_list o)
front_of [] ys o e = inl refl
front_of (x ∷ xs) ys None e = absurd cc
front_of (x ∷ []) ys (Some v) e = inr (let q : x ≡ v = cc in ap (λ y. y ∷ []) q)
front_of (x ∷ y ∷ xs) ys (Some v) e = absurd (let q : y ∷ (xs ++ ys) ≡ [] = cc in cc)

module _ (plan : PlanData) (l : AbstractLayout) (ok : IsLayout l) (start : ℕ → State) (w : ℤ) (st : IsBegun plan l start w) (H : Flow plan l start) (to : ℕ → ℕ → ℕ)
    (within : (t p : ℕ) → t < l.before → (l.task t).role ≡ Source → p < (l.task t).inputs → (cut_of H.end t p ≤ to t p) × (to t p ≤ (l.task t).size p)) where
  abbrev lo : ℕ → ℤ
  lo u = low plan l ok start st.opened H u

  passed_rest : (q : Pane) (h : Record → ℕ) → ((r : Record) → is_at plan.window q r ≡ false → h r ≡ 0) → (s : ℕ) (v : ℤ) → is_due plan.window v q.start ≡ true → (r : Record) → late plan.window.time v r ≡ 0 → rested l s h r ≡ 0
  passed_rest q h support s v due r z =
      let e = support r (not_there plan.window q v r z due) in
      elim (cases_Bool (l.rest s r)) [ inl p ↦ rw p e | inr p ↦ rw p refl ]

  -- the watermark of a task is at most that of each of its inputs
  low_taken : (s t : ℕ) → s < l.before → t < l.sink → l.ring s t ≡ true → lo t ≤ℤ mark_of (taken_on plan l ok start st.opened H t (l.in_at s t))
  low_taken s t p tm r =
      let i = ok.ring_in s t r in
      elim (cases_lt t l.before) [
        | inl q ↦
            (let x = relays_at plan l ok start st.opened H t q (ok.roles_before t q (not_source plan l ok start st.opened H s t r)) in
            let n : l.in_at s t < length (H.end t).inputs.marks = (rw x.length_marks i.0) in
            let y = x.marks (l.in_at s t) i.0 in
            omega (arith, ints, y, least_le (H.end t).inputs.marks (l.in_at s t) n))
        | inr q ↦
            (let x = windows_at plan l ok start st.opened H t q tm in
            let n : l.in_at s t < length (H.end t).inputs.marks = (rw x.length_marks i.0) in
            let y = x.marks (l.in_at s t) i.0 in
            omega (arith, ints, y, least_le (H.end t).inputs.marks (l.in_at s t) n))
      ]

  -- what a task has not yet taken is not of a pane that is due at its owner
  ring_same : (q : Pane) → is_due plan.window (lo (l.owner q.key)) q.start ≡ true → (h : Record → ℕ) → ((r : Record) → is_at plan.window q r ≡ false → h r ≡ 0) → (s t : ℕ) → s < l.before → t < l.sink → l.ring s t ≡ true
      → weigh_log (rested l s h) (given_on plan l ok start st.opened H s (l.out_at s t)) ≡ weigh_log (rested l s h) (taken_on plan l ok start st.opened H t (l.in_at s t))
  ring_same q due h support s t p tm r =
      let u = l.owner q.key in
      let ow = ok.owner_window q.key in
      let d = ahead plan l ok start st.opened H s t r in
      let took = taken_on plan l ok start st.opened H t (l.in_at s t) in
      let o = ok.ring_out s t r in
      let e = ap (weigh_log (rested l s h)) d.1 ∙ weigh_log_append (rested l s h) d.0 took in
      let ord = subst (IsOrderly plan.window.time) d.1 (orderly_given plan l ok start st.opened H s p (l.out_at s t) o.0) in
      let z = orderly_ahead plan.window.time d.0 took ord in
      let passed : lo u ≤ℤ lo t → weigh_log (rested l s h) d.0 ≡ 0 = λ reach.
      let mark = low_taken s t p tm r in
      let up : lo u ≤ℤ mark_of took = omega (arith, ints, reach, mark) in
      log_from (late plan.window.time (mark_of took)) (rested l s h) (passed_rest q h support s (mark_of took) (later _ (lo u) (mark_of took) up due)) d.0 z in
      let none : weigh_log (rested l s h) d.0 ≡ 0 =
      elim (cases_lt t l.before) [
        | inl b ↦ passed (let x = low_reaches plan l ok start st.opened H u ow.0 ow.1 l.before t (omega arith) b in let y = said_chain plan l ok start st.opened H t b (ok.roles_before t b (not_source plan l ok start st.opened H s t r)) in omega (arith, ints, x, y))
        | inr b ↦ elim (cases_eq t u) [
          | inl eq ↦ passed (rw eq (omega (arith, ints)))
          | inr ne ↦
              (let owned_none : (y : Record) → Owns plan.window.key (l.task s).routing (l.out_at s t) y → rested l s h y ≡ 0 = λ y own.
              let e1 = owned_of plan l ok s (l.out_at s t) y p o.0 (rw o.1 b) own ∙ o.1 in
              let e2 = support y (apart plan.window q y (λ k. ne (sym e1 ∙ ap l.owner k))) in
              elim (cases_Bool (l.rest s y)) [ inl x ↦ rw x e2 | inr x ↦ rw x refl ] in
              let g0 : weigh_log (rested l s h) (given_on plan l ok start st.opened H s (l.out_at s t)) ≡ 0 = elim (kind plan l ok start st.opened H s p) [
                | inl a ↦ (read_at plan l ok start st.opened H s p a).owned (rested l s h) (l.out_at s t) o.0 owned_none
                | inr a ↦ (relays_at plan l ok start st.opened H s p a).owned (rested l s h) (l.out_at s t) o.0 owned_none
              ] in
              omega (arith, e, g0))
        ]
      ] in
      omega (arith, e, none)

  -- a source begins no further than where the leg goes
  begins : (t p : ℕ) → t < l.before → (l.task t).role ≡ Source → p < (l.task t).inputs → (cut_of start t p ≤ to t p) × (to t p ≤ (l.task t).size p) × (w ≤ℤ (l.task t).watermark p (cut_of start t p))
  begins t p m a k =
      let g = (read_at plan l ok start st.opened H t m a).grows p in
      let x = within t p m a k in
      (omega (arith, g, x), x.1, st.merged.below t p m a k)

  -- a pane that has fired had all its records
  pub fired_whole : (q : Pane) → is_due plan.window (lo (l.owner q.key)) q.start ≡ true → content plan.window (start (l.owner q.key)).windows (H.steps (l.owner q.key)) q ≡ snapshot_until plan l to w q
  fired_whole q due =
      let ks = plan.window.aggregates in
      let u = l.owner q.key in
      let ow = ok.owner_window q.key in
      let recs = records (H.steps u) in
      let d = eq-eqb u u refl in
      let s1 : get (start u).windows q ≡ snapshot_until plan l (cut_of start) w q = (let s0 = st.windows u ow.0 ow.1 q in rw d at s0) in
      let bounds : (t p : ℕ) → t < l.before → (l.task t).role ≡ Source → p < (l.task t).inputs → (cut_of H.end t p ≤ to t p) × (to t p ≤ (l.task t).size p) × (lo u ≤ℤ (l.task t).watermark p (cut_of H.end t p)) = λ t p m a k.
      let x = within t p m a k in (x.0, x.1, window_below plan l ok start st.opened H u ow.0 ow.1 t p m a k) in
      let arrive : (h : Record → ℕ) → ((r : Record) → is_at plan.window q r ≡ false → h r ≡ 0) → weigh h recs + weigh h (records_until l (cut_of start)) ≡ weigh h (records_until l to) = λ h support.
      arrives plan l ok start st.opened H u ow.0 ow.1 h (λ r ne. support r (apart plan.window q r (λ e. ne (ap l.owner e)))) (ring_same q due h support)
      ∙ nothing_between plan l st.opened.orderly q h support (cut_of H.end) to (lo u) due bounds in
      elim (cases_Bool (is_due plan.window w q.start)) [
        | inl e ↦
            (let s2 : get (start u).windows q ≡ None = s1 ∙ ap (λ t. cond t None (aggregate_until plan l (cut_of start) q)) e in
            let f : aggregate_at plan.window recs q ≡ aggregate_at plan.window [] q = same_aggregate plan.window q recs [] (λ h support.
            let x = arrive h support in
            let y = nothing_between plan l st.opened.orderly q h support (cut_of start) to w e begins in
            omega (arith, x, y)) in
            ap (λ x. merge ks x (aggregate_at plan.window recs q)) s2 ∙ f ∙ aggregate_nil plan.window q ∙ sym (ap (λ t. cond t None (aggregate_until plan l to q)) e))
        | inr e ↦
            (let s2 : get (start u).windows q ≡ aggregate_until plan l (cut_of start) q = s1 ∙ ap (λ t. cond t None (aggregate_until plan l (cut_of start) q)) e in
            let f : aggregate_at plan.window (records_until l (cut_of start) ++ recs) q ≡ aggregate_until plan l to q = same_aggregate plan.window q (records_until l (cut_of start) ++ recs) (records_until l to) (λ h support.
            let x = arrive h support in
            let y = weigh_append h (records_until l (cut_of start)) recs in
            omega (arith, x, y)) in
            ap (λ x. merge ks x (aggregate_at plan.window recs q)) s2 ∙ sym (aggregate_at-append plan.window (records_until l (cut_of start)) recs q) ∙ f ∙ sym (ap (λ t. cond t None (aggregate_until plan l to q)) e))
      ]

  -- the rows that a window task gave of a pane
  pub gave_rows : (v : ℕ) → l.before ≤ v → v < l.sink → (q : Pane) → rows_log q (given_on plan l ok start st.opened H v 0) ≡ cond (is_due plan.window (lo v) q.start) (row_of plan.window q (content plan.window (start v).windows (H.steps v) q)) []
  gave_rows v b m q =
      let ns : (l.task v).role ≡ Source → ⊥ = λ a. (let r = ok.roles_window v b m in cc) in
      ((windows_at plan l ok start st.opened H v b m).settled (orderly_taken plan l ok start st.opened H v m ns) q).rows

  -- a window task gives no row of a pane that another owns
  pub given_none : (v : ℕ) → l.before ≤ v → v < l.sink → (q : Pane) → (l.owner q.key ≡ v → ⊥) → rows_log q (given_on plan l ok start st.opened H v 0) ≡ []
  given_none v b m q ne =
      let ks = plan.window.aggregates in
      let s1 : get (start v).windows q ≡ None = (let s0 = st.windows v b m q in let d = ne_eqb (l.owner q.key) v ne in rw d at s0) in
      let recs = records (H.steps v) in
      let f : aggregate_at plan.window recs q ≡ aggregate_at plan.window [] q = same_aggregate plan.window q recs [] (λ h support. foreign plan l ok start st.opened H v b m h (λ r o. support r (apart plan.window q r (λ e. ne (ap l.owner (sym e) ∙ o))))) in
      let has : content plan.window (start v).windows (H.steps v) q ≡ None = ap (λ y. merge ks y (aggregate_at plan.window recs q)) s1 ∙ f ∙ aggregate_nil plan.window q in
      gave_rows v b m q ∙ ap (λ y. cond (is_due plan.window (lo v) q.start) (row_of plan.window q y) []) has ∙ (elim (cases_Bool (is_due plan.window (lo v) q.start)) [ inl e ↦ rw e refl | inr e ↦ rw e refl ])

  -- what the sink has taken from a window task is the older part of what that gave
  sink_ahead : (v : ℕ) → l.before ≤ v → v < l.sink → (x : List Message) × (given_on plan l ok start st.opened H v 0 ≡ x ++ taken (l.in_at v l.sink) (H.steps l.sink))
  sink_ahead v b m =
      let wo = ok.window_out v b m in
      let o = ok.ring_out v l.sink wo.1 in
      let z : l.out_at v l.sink ≡ 0 = omega (arith, o.0, wo.0) in
      let a = ahead plan l ok start st.opened H v l.sink wo.1 in
      (a.0, sym (ap (λ j. given j (H.steps v) (H.end v)) z) ∙ a.1)

  others_none : (q : Pane) (i : ℕ) → (i ≡ l.in_at (l.owner q.key) l.sink → ⊥) → rows_log q (taken i (H.steps l.sink)) ≡ []
  others_none q i ne =
      let u = l.owner q.key in
      let sink_ns : (l.task l.sink).role ≡ Source → ⊥ = λ a. (let r = ok.role_sink in cc) in
      elim (cases_lt i (l.task l.sink).inputs) [
        | inr past ↦ ap (rows_log q) (taken_past plan (l.task l.sink) (start l.sink) i past (H.run l.sink))
        | inl k ↦
            (let sn = sender plan l ok start st.opened H l.sink i (omega arith) sink_ns k in
            let v = l.from l.sink i in
            let vb : l.before ≤ v = elim (cases_lt v l.before) [ inl y ↦ absurd (false≢true (sym (ok.before_sink v y) ∙ sn.0)) | inr y ↦ y ] in
            let differs : u ≡ v → ⊥ = λ e. ne (sym sn.1 ∙ ap (λ x. l.in_at x l.sink) (sym e)) in
            let a = sink_ahead v vb sn.2 in
            let g = sym (ap (rows_log q) a.1 ∙ rows_log_append q a.0 (taken (l.in_at v l.sink) (H.steps l.sink))) ∙ given_none v vb sn.2 q differs in
            ap (λ x. rows_log q (taken x (H.steps l.sink))) (sym sn.1) ∙ none_left (rows_log q (taken (l.in_at v l.sink) (H.steps l.sink))) (rows_log q a.0) g)
      ]

  -- the watermark of a window task is at most that of where the leg goes
  low_below_end : (v : ℤ) → IsMergedWatermark l to v → (u : ℕ) → l.before ≤ u → u < l.sink → lo u ≤ℤ v
  low_below_end v mg u b m = mg.greatest (lo u) (least_highest (H.end u).inputs.marks) (λ t p tm a k.
      let y = window_below plan l ok start st.opened H u b m t p tm a k in
      let x = within t p tm a k in
      let z = watermark_rises plan (l.task t) (st.opened.orderly t tm a) p (cut_of H.end t p) (to t p - cut_of H.end t p) k (omega (arith, x)) in
      let e : cut_of H.end t p + (to t p - cut_of H.end t p) ≡ to t p = omega (arith, x) in
      let z' : (l.task t).watermark p (cut_of H.end t p) ≤ℤ (l.task t).watermark p (to t p) = (rw e at z) in
      omega (arith, ints, y, z'))

  pub so_far : (v : ℤ) → IsMergedWatermark l to v → (q : Pane) → (filter (row_is_at q) (delivered (H.steps l.sink)) ≡ []) ⊎ (filter (row_is_at q) (delivered (H.steps l.sink)) ≡ option_to_list (row_between plan w v q (aggregate_until plan l to q)))
  so_far v mg q =
      let u = l.owner q.key in
      let ow = ok.owner_window q.key in
      let iu = l.in_at u l.sink in
      let col = collected q iu (H.steps l.sink) (others_none q) in
      let a = sink_ahead u ow.0 ow.1 in
      let took = taken iu (H.steps l.sink) in
      let whole : Option Row = row_between plan w v q (aggregate_until plan l to q) in
      let split : rows_log q took ++ rows_log q a.0 ≡ cond (is_due plan.window (lo u) q.start) (row_of plan.window q (content plan.window (start u).windows (H.steps u) q)) [] = sym (ap (rows_log q) a.1 ∙ rows_log_append q a.0 took) ∙ gave_rows u ow.0 ow.1 q in
      elim (cases_Bool (is_due plan.window (lo u) q.start)) [
        | inr e ↦ inl (col ∙ none_left (rows_log q took) (rows_log q a.0) (rw e at split))
        | inl e ↦
            (let due : is_due plan.window v q.start ≡ true = later _ (lo u) v (low_below_end v mg u ow.0 ow.1) e in
            let split' : rows_log q took ++ rows_log q a.0 ≡ row_of plan.window q (content plan.window (start u).windows (H.steps u) q) = (rw e at split) in
            let own : row_of plan.window q (content plan.window (start u).windows (H.steps u) q) ≡ option_to_list whole =
            ap (row_of plan.window q) (fired_whole q e)
            ∙ sym (ap (λ t. cond t (row_of plan.window q (snapshot_until plan l to w q)) []) due)
            ∙ row_by plan q true (is_due plan.window w q.start) (is_due plan.window v q.start) (aggregate_until plan l to q) in
            elim (front_of (rows_log q took) (rows_log q a.0) whole (split' ∙ own)) [
              | inl z ↦ inl (col ∙ z)
              | inr z ↦ inr (col ∙ z)
            ])
      ]
