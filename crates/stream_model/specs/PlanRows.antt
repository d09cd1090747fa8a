-- The plan's rows, which of them are due at a cut, and what is left in the windows there. Each is a function of a pane.
use Rattle.std.specs.Prelude.{ℕ, List, Option, None, if◌then◌else◌}
use Rattle.std.specs.List.{filter}
use Rattle.std.specs.Option.{option_and_then}
use Rattle.plain_data.specs.Record.{Record}
use Rattle.plan_model.specs.declared.spec.Pane.{Pane}
use Rattle.plan_model.specs.declared.spec.Row.{Row}
use Rattle.plan_model.specs.PlanData.{PlanData}
use Rattle.plan_model.specs.Windows.{passes}
use Rattle.plan_model.specs.Aggregates.{Aggregated, merge}
use Rattle.plan_model.specs.Rows.{aggregate_at, kept_row, is_due}
use Rattle.stream_model.specs.declared.entry.Marked.{Marked}
use Rattle.stream_model.specs.Watermarks.{records_before, records_between, full_cut, merged_watermark}

-- the records that pass the plan's filters
abbrev pub passing : PlanData → List Record → List Record
passing plan records = filter (passes plan.filters) records

-- what the records that pass come to in a pane
abbrev pub plan_aggregate : PlanData → List Record → Pane → Option Aggregated
plan_aggregate plan records q = aggregate_at plan.window (passing plan records) q

-- the row of each pane, over the whole input
abbrev pub plan_rows : PlanData → List (List (List Marked)) → Pane → Option Row
plan_rows plan sources q = option_and_then (kept_row plan.window q) (plan_aggregate plan (records_before sources (full_cut sources)) q)

-- the plan's rows whose windows fire by the cut
abbrev pub due_rows : PlanData → List (List (List Marked)) → List (List ℕ) → Pane → Option Row
due_rows plan sources cut q = if is_due plan.window (merged_watermark sources cut) q.start then plan_rows plan sources q else None

-- what is left in the windows at the cut: what the records before it come to where the window has not fired
abbrev pub snapshot : PlanData → List (List (List Marked)) → List (List ℕ) → Pane → Option Aggregated
snapshot plan sources cut q = if is_due plan.window (merged_watermark sources cut) q.start then None else plan_aggregate plan (records_before sources cut) q

-- what an earlier cut left in the windows, merged with the records between it and a later one
abbrev pub carried : PlanData → List (List (List Marked)) → List (List ℕ) → List (List ℕ) → Pane → Option Aggregated
carried plan sources b c q = merge plan.window.aggregates (snapshot plan sources b q) (plan_aggregate plan (records_between sources b c) q)
