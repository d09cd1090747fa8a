-- The rows of windows that fire.
use Rattle.std.specs.Prelude.{◌≡◌, ℤ, true, map, filter, List, Option, Some, None, if◌then◌else◌}
use Rattle.std.specs.List.{All}
use Rattle.plan_model.specs.declared.spec.Having.{Having}
use Rattle.plan_model.specs.declared.spec.WindowSpec.{WindowSpec}
use Rattle.plan_model.specs.declared.spec.Pane.{Pane}
use Rattle.plan_model.specs.declared.spec.Row.{Row}
use Rattle.plan_model.specs.Rows.{is_due, keeps, row_at}
use Rattle.plan_model.specs.Aggregates.{Aggregated}

-- the rows of the entries that fire by a watermark, in order
abbrev pub rows_due : WindowSpec → ℤ → List (Pane × Aggregated) → List Row
rows_due w watermark entries = map (λ e. row_at w e.0 e.1) (filter (λ e. is_due w watermark e.0.start) entries)

-- each window of the panes fires by a watermark
abbrev pub AllDue : WindowSpec → ℤ → List Pane → Type 0
AllDue w watermark panes = All (λ p. is_due w watermark p.start ≡ true) panes

-- a row that meets the having conditions
abbrev pub kept_where : List Having → Option Row → Option Row
kept_where having None = None
kept_where having (Some row) = if keeps having row.values then Some row else None
