-- What a leg comes to.
use Rattle.std.proofs.Common.{◌≡◌, ℕ, ◌++◌, None, cond, eqb, ◌<◌, ◌≤◌, inl, inr, option_to_list, sym, ap, ◌∙◌, arith, ℤ, pos}
use Rattle.std.proofs.lemmas.List.{get_or_default}
use Rattle.std.specs.List.{filter}
use Rattle.plan_model.specs.PlanData.{PlanData}
use Rattle.plan_model.specs.Rows.{row_is_at}
use Rattle.dataflow_model.specs.AbstractLayout.{AbstractLayout, IsLayout}
use Rattle.dataflow_model.specs.State.{State}
use Rattle.dataflow_model.specs.declared.role.Role.TheVariants.{Source}
use Rattle.dataflow_model.specs.Start.{IsStart}
use Rattle.dataflow_model.specs.Flow.{Flow}
use Rattle.dataflow_laws.specs.Laws.{IsExact, DrainedIsExact, LegIsExact, LegReachesItsCut, LegToItsCutIsExact, EachMoment}
use Rattle.dataflow_laws.proofs.Sinks.{delivered, sink_rows_are}
use Rattle.dataflow_laws.proofs.Legs.{left, out}
use Rattle.dataflow_laws.proofs.Complete.{flow_of, drained, at_limits}
use Rattle.dataflow_laws.proofs.Graph.{read_at}
use Rattle.dataflow_laws.proofs.Partial.{so_far}
use Rattle.dataflow_laws.proofs.SameCuts.{AreSameCuts, same_merged, same_until}
use Rattle.dataflow_model.specs.Cuts.{cut_of, leg_cut, row_between}
use Rattle.plan_model.specs.Rows.{is_due}
use Rattle.dataflow_laws.proofs.Openings.{IsOpenedAs, opened_as, begun}

-- the sink has what it took in the leg
pub sink_has : (p : PlanData) (l : AbstractLayout) (start : ℕ → State) (w : ℤ) → IsLayout l → IsStart p l start w → (f : Flow p l start) → (f.end l.sink).rows ≡ delivered (f.steps l.sink)
sink_has p l start w ok st f =
    let o : IsOpenedAs (l.task l.sink) (start l.sink) = opened_as p (l.task l.sink).role (l.task l.sink) (start l.sink) (st.opens l.sink (omega arith)) in
    sink_rows_are p (l.task l.sink) (start l.sink) ok.role_sink (f.run l.sink) ∙ ap (λ s. s.rows ++ delivered (f.steps l.sink)) o.is

pub drained_is_exact : DrainedIsExact
drained_is_exact p l start w v ok orderly leg st f drained mg =
    let b = begun p l start w ok orderly leg st in
    record {
      rows = λ q. ap (filter (row_is_at q)) (sink_has p l start w ok st f) ∙ out p l ok start w b f drained v mg q;
      marks = λ t q d m a k.
          let r = read_at p l ok start b.opened f t m a in
          get_or_default (f.end t).inputs.marks q d (pos 0) (omega (arith, r.length_marks)) ∙ r.marks q k;
      windows = λ u m k q. left p l ok start w b f drained v mg u m k q;
    }

pub leg_is_exact : LegIsExact
leg_is_exact p l start w v ok orderly leg st h complete mg = drained_is_exact p l start w v ok orderly leg st (flow_of h) (drained p l ok start leg st.opens h complete) mg

pub leg_reaches_its_cut : LegReachesItsCut
leg_reaches_its_cut p l start ok leg opens h complete ask t q b a k =
    let some = ok.some_windows in
    at_limits p l ok start leg opens h complete t q b a k (λ e. ask (sym (leg.alike t (omega arith)).2 ∙ e))

-- what is exact at one cut is so at the other
pub exact_there : (p : PlanData) (l : AbstractLayout) (w v : ℤ) (c d : ℕ → ℕ → ℕ) (end : ℕ → State) → AreSameCuts l c d → IsExact p l w v c end → IsExact p l w v d end
exact_there p l w v c d end e x = record {
  rows = λ q. x.rows q ∙ ap (λ o. option_to_list (row_between p w v q o)) (same_until p l c d q e);
  marks = λ t q n b a k. x.marks t q n b a k ∙ ap ((l.task t).watermark q) (e t q b a k);
  windows = λ u b m q. x.windows u b m q ∙ ap (λ o. cond (eqb (l.owner q.key) u) (cond (is_due p.window v q.start) None o) None) (same_until p l c d q e);
}

pub leg_to_its_cut_is_exact : LegToItsCutIsExact
leg_to_its_cut_is_exact p l start w v ok orderly leg st h complete ask mg =
    let same : AreSameCuts l (cut_of h.end) (leg_cut l) = leg_reaches_its_cut p l start ok leg st.opens h complete ask in
    exact_there p l w v (cut_of h.end) (leg_cut l) h.end same
    (leg_is_exact p l start w v ok orderly leg st h complete (same_merged l (leg_cut l) (cut_of h.end) v (λ t q b a k. sym (same t q b a k)) mg))

pub each_moment : EachMoment
each_moment p l start w v ok orderly leg st h mg q =
    let b = begun p l start w ok orderly leg st in
    let f : Flow p l start = flow_of h in
    let within : (t x : ℕ) → t < l.before → (l.task t).role ≡ Source → x < (l.task t).inputs → (cut_of f.end t x ≤ leg_cut l t x) × (leg_cut l t x ≤ (l.task t).size x) = λ t x m a k.
    ((read_at p l ok start b.opened f t m a).within x k, leg.within t x m a k) in
    let has = ap (filter (row_is_at q)) (sink_has p l start w ok st f) in
    elim (so_far p l ok start w b f (leg_cut l) within v mg q) [
      | inl z ↦ inl (has ∙ z)
      | inr z ↦ inr (has ∙ z)
    ]
