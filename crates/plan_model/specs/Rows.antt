-- What stands in a pane, and the row that it gives. A pane is a window, by its start, and a key.
use Rattle.std.specs.Prelude.{◌≡◌, ℤ, pos, ◌+ℤ◌, ◌-ℤ◌, int_le, Bool, ◌&&◌, List, slice_index_or, Option, Some, None, if◌then◌else◌}
use Rattle.std.specs.List.{filter, list_all}
use Rattle.std.specs.Option.{option_to_list}
use Rattle.std.specs.Ordering.{int_cmp, int_eq, ordering_then}
use Rattle.std.specs.declared.cmp.Ordering.{Ordering}
use Rattle.plain_data.specs.Record.{Record}
use Rattle.lane_kernels.specs.Compare.{holds}
use Rattle.plan_model.specs.declared.spec.Having.{Having}
use Rattle.plan_model.specs.declared.spec.WindowSpec.{WindowSpec}
use Rattle.plan_model.specs.declared.spec.Pane.{Pane}
use Rattle.plan_model.specs.declared.spec.Row.{Row}
use Rattle.plan_model.specs.Windows.{is_start, is_at}
use Rattle.plan_model.specs.Aggregates.{Aggregated, aggregate_of}

-- the records, all of which pass, that count in a pane
abbrev pub records_of : WindowSpec → Pane → List Record → List Record
records_of w q records = filter (is_at w q) records

-- what records, all of which pass, come to in a pane, if it is one of the plan's and has any
abbrev pub aggregate_at : WindowSpec → List Record → Pane → Option Aggregated
aggregate_at w records q = if is_start w q.start then aggregate_of w.aggregates (records_of w q records) else None

-- the numbers meet every having condition
abbrev pub keeps : List Having → List ℤ → Bool
keeps having numbers = list_all (λ h. holds h.cmp (slice_index_or numbers h.aggregate (pos 0)) h.value) having

-- the row of what stands in a pane
abbrev pub row_at : WindowSpec → Pane → Aggregated → Row
row_at w q a = record { start = q.start; end = q.start +ℤ w.size; key = q.key; values = a.numbers }

-- the same, if the having conditions keep it
abbrev pub kept_row : WindowSpec → Pane → Aggregated → Option Row
kept_row w q a = if keeps w.having a.numbers then Some (row_at w q a) else None

-- the window that begins at s fires once the watermark is t: its greatest time, end - 1, is at most t
abbrev pub is_due : WindowSpec → ℤ → ℤ → Bool
is_due w t s = int_le (s +ℤ w.size -ℤ pos 1) t

-- panes in the order of their starts, and of their keys at one start
abbrev pub pane_cmp : Pane → Pane → Ordering
pane_cmp p q = ordering_then (int_cmp p.start q.start) (int_cmp p.key q.key)

abbrev pub pane_of : Row → Pane
pane_of row = record { start = row.start; key = row.key }

-- the row stands in the pane
abbrev pub row_is_at : Pane → Row → Bool
row_is_at q row = int_eq row.start q.start && int_eq row.key q.key

-- the rows are just those that `f` has, each once, in any order
abbrev pub AreRowsOf : (Pane → Option Row) → List Row → Type 0
AreRowsOf f rows = (q : Pane) → filter (row_is_at q) rows ≡ option_to_list (f q)
