-- Slices of time, and what those of a window come to.
use Rattle.std.specs.Prelude.{◌≡◌, ℤ, ◌^◌, ◌≤◌, ◌<◌, ◌≤ℤ◌, ◌&&◌, map, Bool, List, [], ◌∷◌, Option, Some, None, if◌then◌else◌}
use Rattle.std.specs.Global.{Vec}
use Rattle.std.specs.List.{All, list_any}
use Rattle.std.specs.Map.{lookup}
use Rattle.std.specs.Option.{option_map}
use Rattle.std.specs.Ordering.{int_eq}
use Rattle.plan_model.specs.declared.spec.WindowSpec.{WindowSpec}
use Rattle.plan_model.specs.declared.spec.Pane.{Pane}
use Rattle.plain_data.specs.Record.{Record}
use Rattle.plan_model.specs.Aggregates.{Aggregated, aggregate_of, merge}
use Rattle.plan_model.specs.Windows.{is_start, is_within, is_window_of}
use Rattle.aggregates.specs.Kinds.{AccData, kind_of}
use Rattle.window_slices.specs.declared.key_slices.Slice.{Slice}

-- the accumulator of what records come to, with the operator's aggregates
abbrev pub acc_with : WindowSpec → Aggregated → AccData
acc_with w a = record { kinds = map kind_of w.aggregates; total = a }

-- what stands in an accumulator, where there is one
abbrev pub total_of : Option AccData → Option Aggregated
total_of o = option_map (λ (a : AccData). a.total) o

-- a slice of the window operator: it has the operator's aggregates
abbrev pub IsSliceOf : WindowSpec → Slice → Type 0
IsSliceOf w x = x.acc.kinds ≡ map kind_of w.aggregates

-- what the slices in the window that begins at s come to
abbrev pub slices_total : WindowSpec → ℤ → List Slice → Option Aggregated
slices_total w s [] = None
slices_total w s (x ∷ xs) = if is_within w s x.start then merge w.aggregates (Some x.acc.total) (slices_total w s xs) else slices_total w s xs

-- the slices of a key, where it has any
abbrev pub slices_in : Option (Vec Slice) → List Slice
slices_in None = []
slices_in (Some v) = v.items

abbrev pub slices_of : List (ℤ × Vec Slice) → ℤ → List Slice
slices_of keyed k = slices_in (lookup (int_eq k) keyed)

-- what stands in a pane by the slices of its key
abbrev pub sliced : WindowSpec → List (ℤ × Vec Slice) → Pane → Option Aggregated
sliced w keyed q = if is_start w q.start then slices_total w q.start (slices_of keyed q.key) else None

-- whether one of the slices starts at b
abbrev pub has_start : ℤ → List Slice → Bool
has_start b xs = list_any (λ x. int_eq b x.start) xs

-- a number was found that another one is at most, or at least
abbrev pub IsUpTo : Option ℤ → ℤ → Type 0
IsUpTo None z = ⊥
IsUpTo (Some b) z = z ≤ℤ b

abbrev pub IsFrom : Option ℤ → ℤ → Type 0
IsFrom None z = ⊥
IsFrom (Some b) z = b ≤ℤ z

-- whether one of the slices is in the window that begins at s
abbrev pub has_slice : WindowSpec → ℤ → List Slice → Bool
has_slice w s xs = list_any (λ x. is_within w s x.start) xs

-- each slice is one of the operator's
abbrev pub AreSlices : WindowSpec → List (ℤ × Vec Slice) → Type 0
AreSlices w keyed = (k : ℤ) → All (IsSliceOf w) (slices_of keyed k)

-- a slice that starts at b can take one record more
abbrev pub CanTakeOne : ℤ → List Slice → Type 0
CanTakeOne b xs = All (λ x. x.start ≡ b → x.acc.total.count < 2 ^ 41) xs

-- a record has come into a slice that starts at b
abbrev pub TakesOne : WindowSpec → ℤ → Record → List Slice → List Slice → Type 0
TakesOne w b r old new =
    (s : ℤ) → slices_total w s new ≡ (if is_within w s b then merge w.aggregates (slices_total w s old) (aggregate_of w.aggregates (r ∷ [])) else slices_total w s old)

-- and so into each pane of the slice's key whose window has where the slice starts
abbrev pub PanesTakeOne : WindowSpec → Pane → Record → (Pane → Option Aggregated) → (Pane → Option Aggregated) → Type 0
PanesTakeOne w slice r old new =
    (q : Pane) → new q ≡ (if int_eq slice.key q.key && is_window_of w slice.start q.start then merge w.aggregates (old q) (aggregate_of w.aggregates (r ∷ [])) else old q)

-- what records come to, of at most 2^41
abbrev pub IsCounted : Option Aggregated → Type 0
IsCounted o = (a : Aggregated) → o ≡ Some a → a.count ≤ 2 ^ 41
