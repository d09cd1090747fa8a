-- The rows that the having conditions keep.
use Rattle.std.proofs.Common.{◌≡◌, true, false, List, refl, ap, ◌∙◌, Bool}
use Rattle.std.specs.Prelude.{ℤ, Option, Some, None, option_map, option_and_then, option_to_list, if◌then◌else◌}
use Rattle.std.specs.FinMap.{get}
use Rattle.plan_model.specs.declared.spec.Pane.{Pane}
use Rattle.plan_model.specs.declared.spec.Row.{Row}
use Rattle.plan_model.specs.declared.spec.WindowSpec.{WindowSpec}
use Rattle.plan_model.specs.Aggregates.{Aggregated}
use Rattle.plan_model.specs.Rows.{row_at, kept_row, is_due, AreRowsOf}
use Rattle.window_state.specs.State.{StateData, fired}
use Rattle.window_state.specs.Firing.{kept_where}
use Rattle.task_steps.specs.Firing.{kept_due}

kept_at : (w : WindowSpec) (q : Pane) (b : Bool) (o : Option Aggregated) → kept_where w.having (if b then option_map (row_at w q) o else None) ≡ (if b then option_and_then (kept_row w q) o else None)
kept_at w q false o = refl
kept_at w q true None = refl
kept_at w q true (Some a) = refl

pub rows_kept : (s : StateData) (t : ℤ) (rows : List Row) → AreRowsOf (λ q. kept_where s.window.having (fired s.window t (get s.windows) q)) rows → AreRowsOf (kept_due s.window s.windows t) rows
rows_kept s t rows are = λ q. are q ∙ ap option_to_list (kept_at s.window q (is_due s.window t q.start) (get s.windows q))
