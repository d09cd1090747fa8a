use Rattle.std.proofs.Common.{◌≡◌, ◌++◌, List, not, ap, subst, ◌∙◌, rules, FitsSigned, to_z, of_z}
use Rattle.std.specs.Prelude.{ℤ}
use Rattle.std.specs.Int.{w64}
use Rattle.std.specs.FinMap.{get, retain_keys}
use Rattle.std.proofs.lemmas.Int.{to_z-of_z}
use Rattle.window_state.specs.State as state
use Rattle.plan_model.specs.declared.spec.Having.{Having}
use Rattle.plan_model.specs.Rows.{is_due, AreRowsOf}
use Rattle.window_state.specs.Firing.{kept_where}
use Rattle.dataflow_model.specs.declared.message.Message.TheVariants.{Watermark}
use Rattle.dataflow_model.specs.Routes.{fired, to_all}
use Rattle.task_steps.proofs.KeptRows.{rows_kept}
use Rattle.task_steps.proofs.firing.fire_at.Goals as goal

pub returns-clause-fires : goal.returns-clause-fires
returns-clause-fires c =
    let s = c.args.window.now in
    let low = c.in-Some.low in
    let rows = c.in_ok-rows.rows.items in
    let kept = c.keep_rows.new.rows.items in
    let fits : FitsSigned w64 low = search rules in
    let same : to_z w64 (of_z w64 low) ≡ low = to_z-of_z w64 low fits in
    let are = subst (λ (t : ℤ). AreRowsOf (state.fired s.window t (get s.windows)) rows) same c.in_ok-rows.ensures.rows in
    rw c.in-Some.is (record {
      rows = kept;
      fires = (
        rows_kept s low kept (subst (λ (h : List Having). AreRowsOf (λ q. kept_where h (state.fired s.window low (get s.windows) q)) kept) c.requires.having (c.keep_rows.ensures.at_panes (state.fired s.window low (get s.windows)) are)),
        c.in_ok-rows.ensures.left ∙ (λ j. record s { windows = retain_keys s.windows (λ q. not (is_due s.window (same j) q.start)) }),
      );
      is = c.to_all.ensures.pending
          ∙ (λ j. c.send_rows.ensures.pending j ++ to_all c.args.outputs (Watermark (same j)))
          ∙ ap (λ l. (l ++ fired kept) ++ to_all c.args.outputs (Watermark low)) c.requires.idle;
    })
