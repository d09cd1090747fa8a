-- The fields of open windows and of a window state, and the values that they stand for.
use Rattle.std.specs.Prelude.{◌≡◌, int_lt, true, false, Option, is_some, if◌then◌else◌}
use Rattle.std.specs.FinMap.{from_entries}
use Rattle.plan_model.specs.declared.spec.Pane.{Pane}
use Rattle.plan_model.specs.Aggregates.{Aggregated}
use Rattle.window_state.specs.declared.windows.Windows.TheInside.{Inside as WindowsInside}
use Rattle.window_state.specs.State.{OpenWindows}
use Rattle.window_state.specs.Windows.{acc_at, total_at, AreWhole, IsOperator, IsStart}
use Rattle.window_state.specs.Open.{AreOpen, open_panes}
use Rattle.window_state.specs.Parts.{entries_at}
use Rattle.window_slices.specs.KeySlices.{IsCounted}
use Rattle.window_slices.specs.Spans.{AreInSpans, in_spans}

-- what stands in a pane: what is in its place where its window begins before `from`, and elsewhere what its slices come
-- to
abbrev pub standing : WindowsInside → Pane → Option Aggregated
standing s q = if int_lt q.start s.from then total_at s.places.entries q else in_spans s.places.window s.spans.entries q

abbrev pub windows_view : WindowsInside → OpenWindows
windows_view s = record { window = s.places.window; from = s.from; totals = from_entries (entries_at (standing s) (open_panes s.opened.entries)) }

pub record IsWindowsInside (s : WindowsInside) : Type 0 where
  pub operator : IsOperator s.places.window
  pub whole : AreWhole s.places.window s.from
  pub opened : AreOpen s.opened.entries (standing s)
  pub below : (q : Pane) → is_some (acc_at s.places.entries q) ≡ true → int_lt q.start s.from ≡ true
  pub kinds : AreInSpans s.places.window s.spans.entries
  pub counted : (q : Pane) → int_lt q.start s.from ≡ false → IsCounted (in_spans s.places.window s.spans.entries q)
  pub starts : (q : Pane) → int_lt q.start s.from ≡ false → is_some (in_spans s.places.window s.spans.entries q) ≡ true → IsStart q.start
