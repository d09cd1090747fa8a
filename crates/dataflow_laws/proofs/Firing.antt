-- Windows fire once, when they are due, and with all their records.
use Rattle.std.proofs.Common.{◌≡◌, ℕ, ◌<◌, ◌≤◌, [], true, cond, eqb, refl, ap, subst, ◌∙◌, inl, inr, option_to_list, ℤ}
use Rattle.std.proofs.lemmas.Bool.{cases_eq, cases_Bool, eq-eqb, ne_eqb}
use Rattle.std.specs.List.{filter}
use Rattle.plan_model.specs.declared.spec.Pane.{Pane}
use Rattle.plan_model.specs.PlanData.{PlanData}
use Rattle.plan_model.specs.Rows.{is_due, row_is_at}
use Rattle.dataflow_model.specs.AbstractLayout.{AbstractLayout, IsLayout}
use Rattle.dataflow_model.specs.State.{State}
use Rattle.dataflow_model.specs.Runs.{given}
use Rattle.dataflow_model.specs.Cuts.{aggregate_until, row_between}
use Rattle.dataflow_model.specs.History.{History}
use Rattle.dataflow_laws.specs.Edges.{task_watermark}
use Rattle.dataflow_laws.specs.Firing.{rows_given, IsNotBefore, WindowsFireOnce}
use Rattle.dataflow_laws.proofs.Sinks.{rows_filtered}
use Rattle.dataflow_laws.proofs.Windows.{row_of}
use Rattle.dataflow_laws.proofs.Legs.{IsBegun, row_by}
use Rattle.dataflow_laws.proofs.Complete.{flow_of}
use Rattle.dataflow_laws.proofs.Openings.{begun}
use Rattle.dataflow_laws.proofs.Partial.{fired_whole, gave_rows, given_none}

module _ (p : PlanData) (l : AbstractLayout) (ok : IsLayout l) (start : ℕ → State) (w : ℤ) (bg : IsBegun p l start w) (h : History p l start) (cut : ℕ → ℕ → ℕ) (after : IsNotBefore l h.end cut) where
  -- the rows of a pane at the task that owns its key
  at_owner : (q : Pane) → filter (row_is_at q) (rows_given (given 0 (h.steps (l.owner q.key)) (h.end (l.owner q.key)))) ≡ option_to_list (row_between p w (task_watermark (h.end (l.owner q.key))) q (aggregate_until p l cut q))
  at_owner q =
      let u = l.owner q.key in
      let ow = ok.owner_window q.key in
      let low = task_watermark (h.end u) in
      rows_filtered q (given 0 (h.steps u) (h.end u))
      ∙ gave_rows p l ok start w bg (flow_of h) cut after u ow.0 ow.1 q
      ∙ elim (cases_Bool (is_due p.window low q.start)) [
        | inl d ↦ ap (λ y. cond (is_due p.window low q.start) (row_of p.window q y) []) (fired_whole p l ok start w bg (flow_of h) cut after q d)
        | inr d ↦ rw d refl
      ]
      ∙ row_by p q true (is_due p.window w q.start) (is_due p.window low q.start) (aggregate_until p l cut q)

  at_each : (u : ℕ) → l.before ≤ u → u < l.sink → (q : Pane) → filter (row_is_at q) (rows_given (given 0 (h.steps u) (h.end u))) ≡ cond (eqb (l.owner q.key) u) (option_to_list (row_between p w (task_watermark (h.end u)) q (aggregate_until p l cut q))) []
  at_each u b m q = elim (cases_eq (l.owner q.key) u) [
    | inr ne ↦ (let d = ne_eqb (l.owner q.key) u ne in rw d (rows_filtered q (given 0 (h.steps u) (h.end u)) ∙ given_none p l ok start w bg (flow_of h) cut after u b m q ne))
    | inl e ↦ (let d = eq-eqb (l.owner q.key) u e in rw d (subst (λ x. filter (row_is_at q) (rows_given (given 0 (h.steps x) (h.end x))) ≡ option_to_list (row_between p w (task_watermark (h.end x)) q (aggregate_until p l cut q))) e (at_owner q)))
  ]

pub windows_fire_once : WindowsFireOnce
windows_fire_once p l start w ok orderly leg st h cut after u b m q = at_each p l ok start w (begun p l start w ok orderly leg st) h cut after u b m q
