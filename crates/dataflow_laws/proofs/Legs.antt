-- A drained flow delivers what is due and leaves the snapshot.
use Rattle.std.proofs.Common.{◌≡◌, ℕ, zero, suc, ◌+◌, ◌-◌, ◌<◌, ◌≤◌, List, [], ◌∷◌, ◌++◌, Bool, true, false, cond, eqb, refl, sym, ap, ◌∙◌, inl, inr, arith, Option, None, option_to_list, option_and_then, if◌then◌else◌, ℤ, ◌≤ℤ◌}
use Rattle.std.proofs.lemmas.Bool.{cases_eq, cases_Bool, cases_lt, false≢true, eq-eqb, ne_eqb, and_left}
use Rattle.std.proofs.lemmas.Int.{ints, clamps}
use Rattle.std.specs.List.{filter}
use Rattle.std.specs.FinMap.{get}
use Rattle.std.specs.Ordering.{int_eq}
use Rattle.plain_data.specs.Record.{Record, at}
use Rattle.plain_data.specs.Times.{lowest}
use Rattle.plan_model.specs.declared.spec.Pane.{Pane}
use Rattle.plan_model.specs.declared.spec.WindowSpec.{WindowSpec}
use Rattle.plan_model.specs.PlanData.{PlanData}
use Rattle.plan_model.specs.Windows.{is_at}
use Rattle.plan_model.specs.Aggregates.{Aggregated, merge}
use Rattle.plan_model.specs.Rows.{aggregate_at, is_due, kept_row, row_is_at}
use Rattle.plan_model.proofs.Facts.{aggregate_at-append}
use Rattle.input_state.specs.Inputs.{least}
use Rattle.dataflow_model.specs.declared.role.Role.TheVariants.{Source}
use Rattle.dataflow_model.specs.Message.{records_of}
use Rattle.dataflow_model.specs.Role.{is_source}
use Rattle.dataflow_model.specs.AbstractTask.{AbstractTask}
use Rattle.dataflow_model.specs.AbstractLayout.{AbstractLayout, IsLayout}
use Rattle.dataflow_model.specs.State.{State}
use Rattle.dataflow_model.specs.Runs.{taken, given}
use Rattle.dataflow_model.specs.Cuts.{IsOrderlySource, cut_of, IsMergedWatermark, records_until, aggregate_until, snapshot_until, row_between}
use Rattle.dataflow_model.specs.Snapshots.{AtOwners}
use Rattle.dataflow_model.specs.Flow.{Flow, IsDrained}
use Rattle.dataflow_laws.proofs.Streams.{weigh, weigh_message, weigh_log, mark_of, late}
use Rattle.dataflow_laws.proofs.Logs.{weigh_append, weigh_of}
use Rattle.dataflow_laws.proofs.Relay.{least_from, least_highest}
use Rattle.dataflow_laws.proofs.Reader.{not_late}
use Rattle.dataflow_laws.proofs.Windows.{records, content, row_of, IsSettled, later}
use Rattle.dataflow_laws.proofs.Sinks.{rows_log, delivered, collected}
use Rattle.dataflow_laws.proofs.Same.{same_aggregate, aggregate_nil, not_there}
use Rattle.dataflow_laws.proofs.Taken.{taken_past}
use Rattle.dataflow_laws.proofs.Graph.{IsOpened, given_on, read_at, relays_at, windows_at, kind, chain_apart, sender, sender_before, orderly_taken, said, said_source, said_chain, said_each, low, window_below, arrives, foreign, input_weight, read_weight, rested}
use Rattle.dataflow_model.proofs.Facts.{total_front, total_same, source_yes}

-- a weight of records that are not late is 0 where nothing else is
pub weigh_from : (g h : Record → ℕ) → ((r : Record) → g r ≡ 0 → h r ≡ 0) → (xs : List Record) → weigh g xs ≡ 0 → weigh h xs ≡ 0
weigh_from g h f [] z = refl
weigh_from g h f (x ∷ xs) z = let a = f x (omega (arith, z)) in let c = weigh_from g h f xs (omega (arith, z)) in omega (arith, a, c)

pub watermark_rises : (plan : PlanData) (k : AbstractTask) → IsOrderlySource plan k → (p a n : ℕ) → p < k.inputs → a + n ≤ k.size p → k.watermark p a ≤ℤ k.watermark p (a + n)
watermark_rises plan k ok p a zero l m = (let e : a + 0 ≡ a = omega arith in rw e (omega (arith, ints)))
watermark_rises plan k ok p a (suc n) l m =
    let i = watermark_rises plan k ok p a n l (omega arith) in
    let r = ok.moves p (a + n) l (omega arith) in
    (let e : a + suc n ≡ suc (a + n) = omega arith in rw e (omega (arith, ints, clamps, i, r)))

-- entries from a cut on weigh nothing in a pane that its watermark has passed
module _ (plan : PlanData) (l : AbstractLayout) (orderly : (t : ℕ) → t < l.before → (l.task t).role ≡ Source → IsOrderlySource plan (l.task t)) (q : Pane) (h : Record → ℕ) (support : (r : Record) → is_at plan.window q r ≡ false → h r ≡ 0) where
  passed_late : (w : ℤ) → is_due plan.window w q.start ≡ true → (r : Record) → late plan.window.time w r ≡ 0 → cond (l.pass r) (h r) 0 ≡ 0
  passed_late w due r z =
      let e = support r (not_there plan.window q w r z due) in
      elim (cases_Bool (l.pass r)) [ inl p ↦ rw p e | inr p ↦ rw p refl ]

  pub nothing_between : (from to : ℕ → ℕ → ℕ) (w : ℤ) → is_due plan.window w q.start ≡ true → ((t p : ℕ) → t < l.before → (l.task t).role ≡ Source → p < (l.task t).inputs → (from t p ≤ to t p) × (to t p ≤ (l.task t).size p) × (w ≤ℤ (l.task t).watermark p (from t p))) → weigh h (records_until l from) ≡ weigh h (records_until l to)
  nothing_between from to w due cuts =
      input_weight l h from ∙ total_same l.before (read_weight l h from) (read_weight l h to) (λ t m. elim (cases_Bool (is_source (l.task t).role)) [
        | inr e ↦ rw e refl
        | inl e ↦ rw e (total_same (l.task t).inputs _ _ (λ p k.
            let k' = l.task t in
            let a = source_yes k'.role e in
            let c = cuts t p m a k in
            let g : Record → ℕ = λ r. cond (l.pass r) (h r) 0 in
            sym (total_front (to t p) (from t p) (λ n. weigh_message g (k'.entry p n)) c.0 (λ n y z.
            let o = orderly t m a in
            let rise : k'.watermark p (from t p) ≤ℤ k'.watermark p n = (let x = watermark_rises plan k' o p (from t p) (n - from t p) k (omega arith) in let e : from t p + (n - from t p) ≡ n = omega arith in rw e at x) in
            let up : w ≤ℤ k'.watermark p n = omega (arith, ints, rise, c.2) in
            let none = not_late plan.window.time (k'.watermark p n) (records_of (k'.entry p n)) (o.late p n k (omega (arith, c.1))) in
            sym (weigh_of g (k'.entry p n)) ∙ weigh_from (late plan.window.time (k'.watermark p n)) g (passed_late (k'.watermark p n) (later _ w (k'.watermark p n) up due)) (records_of (k'.entry p n)) none))))
      ]) ∙ sym (input_weight l h to)

-- what does not change from one cut to a later one
pub aggregate_between : (plan : PlanData) (l : AbstractLayout) (orderly : (t : ℕ) → t < l.before → (l.task t).role ≡ Source → IsOrderlySource plan (l.task t)) (q : Pane) (from to : ℕ → ℕ → ℕ) (w : ℤ) → is_due plan.window w q.start ≡ true → ((t p : ℕ) → t < l.before → (l.task t).role ≡ Source → p < (l.task t).inputs → (from t p ≤ to t p) × (to t p ≤ (l.task t).size p) × (w ≤ℤ (l.task t).watermark p (from t p))) → aggregate_until plan l from q ≡ aggregate_until plan l to q
aggregate_between plan l orderly q from to w due cuts = same_aggregate plan.window q (records_until l from) (records_until l to) (λ h support. nothing_between plan l orderly q h support from to w due cuts)

-- a record of another key is not in a pane
other_key : (a b : ℤ) → (a ≡ b → ⊥) → int_eq a b ≡ false
other_key a b ne = elim (cases_Bool (int_eq a b)) [ inl e ↦ absurd (ne (grind (arith, ints))) | inr e ↦ e ]

pub apart : (w : WindowSpec) (q : Pane) (r : Record) → (at w.key r ≡ q.key → ⊥) → is_at w q r ≡ false
apart w q r ne = and_left _ _ (other_key (at w.key r) q.key ne)

left_cases : (own dv dw : Bool) (o : Option Aggregated) → (dv ≡ true → dw ≡ true) → cond dw None (cond own (cond dv None o) None) ≡ cond own (cond dw None o) None
left_cases false dv true o up = refl
left_cases false dv false o up = refl
left_cases true dv true o up = refl
left_cases true true false o up = absurd (let h = up refl in cc)
left_cases true false false o up = refl

pub row_by : (plan : PlanData) (q : Pane) (own dv dw : Bool) (o : Option Aggregated) → cond dw (row_of plan.window q (cond own (cond dv None o) None)) [] ≡ cond own (option_to_list (if dv then None else if dw then option_and_then (kept_row plan.window q) o else None)) []
row_by plan q false dv true o = refl
row_by plan q false dv false o = refl
row_by plan q true true true o = refl
row_by plan q true true false o = refl
row_by plan q true false true o = refl
row_by plan q true false false o = refl

row_cases : (plan : PlanData) (q : Pane) (w w' : ℤ) (own : Bool) (o : Option Aggregated) → cond (is_due plan.window w' q.start) (row_of plan.window q (cond own (cond (is_due plan.window w q.start) None o) None)) [] ≡ cond own (option_to_list (row_between plan w w' q o)) []
row_cases plan q w w' own o = row_by plan q own (is_due plan.window w q.start) (is_due plan.window w' q.start) o

-- tasks that begin with the snapshot of a cut whose watermark is w
pub record IsBegun (plan : PlanData) (l : AbstractLayout) (start : ℕ → State) (w : ℤ) : Type 0 where
  pub opened : IsOpened plan l start
  pub merged : IsMergedWatermark l (cut_of start) w
  pub windows : AtOwners l (λ u. (start u).windows) (snapshot_until plan l (cut_of start) w)

module _ (plan : PlanData) (l : AbstractLayout) (ok : IsLayout l) (start : ℕ → State) (w : ℤ) (st : IsBegun plan l start w) (H : Flow plan l start) (drained : IsDrained H) where
  abbrev pub cut : ℕ → ℕ → ℕ
  cut = cut_of start

  abbrev pub cut' : ℕ → ℕ → ℕ
  cut' = cut_of H.end

  pub moved : (t p : ℕ) → t < l.before → (l.task t).role ≡ Source → p < (l.task t).inputs → (cut t p ≤ cut' t p) × (cut' t p ≤ (l.task t).size p) × (w ≤ℤ (l.task t).watermark p (cut t p))
  moved t p m a k =
      let r = read_at plan l ok start st.opened H t m a in
      let g = r.grows p in
      let x : cut' t p ≤ (l.task t).size p = (let i = r.within p k in let c = st.opened.limits t m a 0 p k (omega arith) in omega (arith, i, c)) in
      (g, x, st.merged.below t p m a k)

  -- what a window task has counted: of its own cells, those of the later cut but for what was due before
  contents : (u : ℕ) → l.before ≤ u → u < l.sink → (q : Pane) → content plan.window (start u).windows (H.steps u) q ≡ cond (eqb (l.owner q.key) u) (snapshot_until plan l cut' w q) None
  contents u b m q =
      let ks = plan.window.aggregates in
      let s0 = st.windows u b m q in
      let recs = records (H.steps u) in
      elim (cases_eq (l.owner q.key) u) [
        | inr ne ↦
            (let d = ne_eqb (l.owner q.key) u ne in
            let s1 : get (start u).windows q ≡ None = (rw d at s0) in
            let f : aggregate_at plan.window recs q ≡ aggregate_at plan.window [] q = same_aggregate plan.window q recs [] (λ h support.
            foreign plan l ok start st.opened H u b m h (λ r o. support r (apart plan.window q r (λ e. ne (ap l.owner (sym e) ∙ o))))) in
            rw d (ap (λ x. merge ks x (aggregate_at plan.window recs q)) s1 ∙ f ∙ aggregate_nil plan.window q))
        | inl own ↦
            (let d = eq-eqb (l.owner q.key) u own in
            let s1 : get (start u).windows q ≡ snapshot_until plan l cut w q = (rw d at s0) in
            let arrive : (h : Record → ℕ) → ((r : Record) → is_at plan.window q r ≡ false → h r ≡ 0) → weigh h recs + weigh h (records_until l cut) ≡ weigh h (records_until l cut') = λ h support.
            arrives plan l ok start st.opened H u b m h (λ r ne. support r (apart plan.window q r (λ e. ne (ap l.owner e ∙ own)))) (λ s t p tm r. ap (weigh_log (rested l s h)) (drained.rings s t r)) in
            rw d (elim (cases_Bool (is_due plan.window w q.start)) [
              | inl e ↦
                  (let s2 : get (start u).windows q ≡ None = s1 ∙ ap (λ t. cond t None (aggregate_until plan l cut q)) e in
                  let f : aggregate_at plan.window recs q ≡ aggregate_at plan.window [] q = same_aggregate plan.window q recs [] (λ h support.
                  let x = arrive h support in
                  let y = nothing_between plan l st.opened.orderly q h support cut cut' w e moved in
                  omega (arith, x, y)) in
                  ap (λ x. merge ks x (aggregate_at plan.window recs q)) s2 ∙ f ∙ aggregate_nil plan.window q ∙ sym (ap (λ t. cond t None (aggregate_until plan l cut' q)) e))
              | inr e ↦
                  (let s2 : get (start u).windows q ≡ aggregate_until plan l cut q = s1 ∙ ap (λ t. cond t None (aggregate_until plan l cut q)) e in
                  let f : aggregate_at plan.window (records_until l cut ++ recs) q ≡ aggregate_until plan l cut' q = same_aggregate plan.window q (records_until l cut ++ recs) (records_until l cut') (λ h support.
                  let x = arrive h support in
                  let y = weigh_append h (records_until l cut) recs in
                  omega (arith, x, y)) in
                  ap (λ x. merge ks x (aggregate_at plan.window recs q)) s2 ∙ sym (aggregate_at-append plan.window (records_until l cut) recs q) ∙ f ∙ sym (ap (λ t. cond t None (aggregate_until plan l cut' q)) e))
            ]))
      ]

  -- a watermark that is at most each partition's has come to each task
  reached : (w' : ℤ) → IsMergedWatermark l cut' w' → (n t : ℕ) → t < n → t < l.before → w' ≤ℤ said plan l ok start st.opened H t
  reached w' mg zero t k p = absurd (omega arith)
  reached w' mg (suc n) t k p =
      elim (kind plan l ok start st.opened H t p) [
        | inl a ↦
            (let r = read_at plan l ok start st.opened H t p a in
            let e = said_source plan l ok start st.opened H t p a ∙ ap (λ x. cond x (least (H.end t).inputs.marks) lowest) (drained.opened t p a) in
            let f = least_from (H.end t).inputs.marks w' mg.bound (λ i il. let ik : i < (l.task t).inputs = omega (arith, r.length_marks) in let x = r.marks i ik in let y = mg.below t i p a ik in omega (arith, ints, x, y)) in
            omega (arith, ints, e, f))
        | inr a ↦
            (let r = relays_at plan l ok start st.opened H t p a in
            let e = said_chain plan l ok start st.opened H t p a in
            let f = least_from (H.end t).inputs.marks w' mg.bound (λ i il.
            let ik : i < (l.task t).inputs = omega (arith, r.length_marks) in
            let x = r.marks i ik in
            let sn = sender plan l ok start st.opened H t i (let sw = ok.some_windows in omega arith) (chain_apart plan l ok start st.opened H t a) ik in
            let s = l.from t i in
            let sp = sender_before plan l ok start st.opened H s t (let sw = ok.some_windows in omega arith) sn.0 in
            let y = reached w' mg n s (omega (arith, sn.2)) sp in
            let z = said_each plan l ok start st.opened H s sp (l.out_at s t) (ok.ring_out s t sn.0).0 in
            let d = ap mark_of (drained.rings s t sn.0) in
            let d' = ap (λ q. mark_of (taken q (H.steps t))) sn.1 in
            omega (arith, ints, x, y, z, d, d')) in
            omega (arith, ints, e, f))
      ]

  -- each window task's watermark is the merged one
  pub low_is : (w' : ℤ) → IsMergedWatermark l cut' w' → (u : ℕ) → l.before ≤ u → u < l.sink → low plan l ok start st.opened H u ≡ w'
  low_is w' mg u q m =
      let ns : (l.task u).role ≡ Source → ⊥ = λ a. (let r = ok.roles_window u q m in cc) in
      let up = mg.greatest (low plan l ok start st.opened H u) (least_highest (H.end u).inputs.marks) (λ t p tm a k. window_below plan l ok start st.opened H u q m t p tm a k) in
      let r = windows_at plan l ok start st.opened H u q m in
      let f = least_from (H.end u).inputs.marks w' mg.bound (λ i il.
      let ik : i < (l.task u).inputs = omega (arith, r.length_marks) in
      let x = r.marks i ik in
      let sn = sender plan l ok start st.opened H u i (omega arith) ns ik in
      let s = l.from u i in
      let sp = sender_before plan l ok start st.opened H s u m sn.0 in
      let y = reached w' mg (suc s) s (omega arith) sp in
      let z = said_each plan l ok start st.opened H s sp (l.out_at s u) (ok.ring_out s u sn.0).0 in
      let d = ap mark_of (drained.rings s u sn.0) in
      let d' = ap (λ q. mark_of (taken q (H.steps u))) sn.1 in
      omega (arith, ints, x, y, z, d, d')) in
      omega (arith, ints, up, f)

  -- the end's watermark is at least that of the start
  pub later_watermark : (w' : ℤ) → IsMergedWatermark l cut' w' → w ≤ℤ w'
  later_watermark w' mg = mg.greatest w st.merged.bound (λ t p tm a k.
      let x = moved t p tm a k in
      let y = watermark_rises plan (l.task t) (st.opened.orderly t tm a) p (cut t p) (cut' t p - cut t p) k (omega (arith, x)) in
      let e : cut t p + (cut' t p - cut t p) ≡ cut' t p = omega (arith, x) in
      let z : (l.task t).watermark p (cut t p) ≤ℤ (l.task t).watermark p (cut' t p) = (rw e at y) in
      omega (arith, ints, x, z))

  window_settled : (u : ℕ) → l.before ≤ u → u < l.sink → (q : Pane) → IsSettled plan.window q (low plan l ok start st.opened H u) (get (H.end u).windows q) (rows_log q (given_on plan l ok start st.opened H u 0)) (content plan.window (start u).windows (H.steps u) q)
  window_settled u b m q =
      let ns : (l.task u).role ≡ Source → ⊥ = λ a. (let r = ok.roles_window u b m in cc) in
      (windows_at plan l ok start st.opened H u b m).settled (orderly_taken plan l ok start st.opened H u m ns) q

  -- what is left at a window task
  pub left : (w' : ℤ) → IsMergedWatermark l cut' w' → (u : ℕ) → l.before ≤ u → u < l.sink → (q : Pane) → get (H.end u).windows q ≡ cond (eqb (l.owner q.key) u) (snapshot_until plan l cut' w' q) None
  left w' mg u b m q =
      (window_settled u b m q).has
      ∙ ap (λ y. cond (is_due plan.window y q.start) None (content plan.window (start u).windows (H.steps u) q)) (low_is w' mg u b m)
      ∙ ap (λ y. cond (is_due plan.window w' q.start) None y) (contents u b m q)
      ∙ left_cases (eqb (l.owner q.key) u) (is_due plan.window w q.start) (is_due plan.window w' q.start) (aggregate_until plan l cut' q) (later _ w w' (later_watermark w' mg))

  -- what a window task gave
  given_rows : (w' : ℤ) → IsMergedWatermark l cut' w' → (u : ℕ) → l.before ≤ u → u < l.sink → (q : Pane) → rows_log q (given_on plan l ok start st.opened H u 0) ≡ cond (eqb (l.owner q.key) u) (option_to_list (row_between plan w w' q (aggregate_until plan l cut' q))) []
  given_rows w' mg u b m q =
      (window_settled u b m q).rows
      ∙ ap (λ y. cond (is_due plan.window y q.start) (row_of plan.window q (content plan.window (start u).windows (H.steps u) q)) []) (low_is w' mg u b m)
      ∙ ap (λ y. cond (is_due plan.window w' q.start) (row_of plan.window q y) []) (contents u b m q)
      ∙ row_cases plan q w w' (eqb (l.owner q.key) u) (aggregate_until plan l cut' q)

  -- what the sink has collected
  pub out : (w' : ℤ) → IsMergedWatermark l cut' w' → (q : Pane) → filter (row_is_at q) (delivered (H.steps l.sink)) ≡ option_to_list (row_between plan w w' q (aggregate_until plan l cut' q))
  out w' mg q =
      let u = l.owner q.key in
      let ow = ok.owner_window q.key in
      let ru = (ok.window_out u ow.0 ow.1).1 in
      let iu = l.in_at u l.sink in
      let from_ring : (v : ℕ) → l.before ≤ v → v < l.sink → taken (l.in_at v l.sink) (H.steps l.sink) ≡ given_on plan l ok start st.opened H v 0 = λ v b m.
      let wo = ok.window_out v b m in
      let o = ok.ring_out v l.sink wo.1 in
      let z : l.out_at v l.sink ≡ 0 = omega (arith, o.0, wo.0) in
      sym (drained.rings v l.sink wo.1) ∙ ap (λ j. given j (H.steps v) (H.end v)) z in
      let sink_ns : (l.task l.sink).role ≡ Source → ⊥ = λ a. (let r = ok.role_sink in cc) in
      let others : (i : ℕ) → (i ≡ iu → ⊥) → rows_log q (taken i (H.steps l.sink)) ≡ [] = λ i ne.
      elim (cases_lt i (l.task l.sink).inputs) [
        | inr past ↦ ap (rows_log q) (taken_past plan (l.task l.sink) (start l.sink) i past (H.run l.sink))
        | inl k ↦
            (let sn = sender plan l ok start st.opened H l.sink i (omega arith) sink_ns k in
            let v = l.from l.sink i in
            let vb : l.before ≤ v = elim (cases_lt v l.before) [ inl y ↦ absurd (false≢true (sym (ok.before_sink v y) ∙ sn.0)) | inr y ↦ y ] in
            let differs : u ≡ v → ⊥ = λ e. ne (sym sn.1 ∙ ap (λ x. l.in_at x l.sink) (sym e)) in
            ap (λ x. rows_log q (taken x (H.steps l.sink))) (sym sn.1) ∙ ap (rows_log q) (from_ring v vb sn.2) ∙ given_rows w' mg v vb sn.2 q ∙ (let d = ne_eqb u v differs in rw d refl))
      ] in
      collected q iu (H.steps l.sink) others ∙ ap (rows_log q) (from_ring u ow.0 ow.1) ∙ given_rows w' mg u ow.0 ow.1 q ∙ (let d = eq-eqb u u refl in rw d refl)
