-- Spans of time, each as long as a window, and what the slices in them come to.
use Rattle.std.specs.Prelude.{ℤ, ◌+ℤ◌, ◌-ℤ◌, List, [], Option, Some, None}
use Rattle.indexmap.specs.IndexMap.{IndexMap}
use Rattle.std.specs.Global.{Vec}
use Rattle.std.specs.Int.{int_rem_euclid}
use Rattle.std.specs.Map.{lookup}
use Rattle.std.specs.Ordering.{int_eq}
use Rattle.pane_hashes.specs.declared.hashing.HashKeys.{HashKeys}
use Rattle.plan_model.specs.declared.spec.WindowSpec.{WindowSpec}
use Rattle.plan_model.specs.declared.spec.Pane.{Pane}
use Rattle.plan_model.specs.Aggregates.{Aggregated, merge}
use Rattle.window_slices.specs.declared.key_slices.Slice.{Slice}
use Rattle.window_slices.specs.KeySlices.{AreSlices, sliced}

-- where the span begins that a number lies in: spans are as long as a window, and one begins at the offset
abbrev pub span_start : WindowSpec → ℤ → ℤ
span_start w number = number -ℤ int_rem_euclid (number -ℤ w.offset) w.size

-- the slices of each key in a span, where it has any
abbrev pub keyed_in : Option (IndexMap ℤ (Vec Slice) HashKeys) → List (ℤ × Vec Slice)
keyed_in None = []
keyed_in (Some m) = m.entries

abbrev pub keyed_at : List (ℤ × IndexMap ℤ (Vec Slice) HashKeys) → ℤ → List (ℤ × Vec Slice)
keyed_at spans b = keyed_in (lookup (int_eq b) spans)

-- what stands in a pane by the slices of its key: those of the span in which its window begins, and of the next
abbrev pub in_spans : WindowSpec → List (ℤ × IndexMap ℤ (Vec Slice) HashKeys) → Pane → Option Aggregated
in_spans w spans q = merge w.aggregates (sliced w (keyed_at spans (span_start w q.start)) q) (sliced w (keyed_at spans (span_start w q.start +ℤ w.size)) q)

-- each slice is one of the operator's
abbrev pub AreInSpans : WindowSpec → List (ℤ × IndexMap ℤ (Vec Slice) HashKeys) → Type 0
AreInSpans w spans = (b : ℤ) → AreSlices w (keyed_at spans b)
