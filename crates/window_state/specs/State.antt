-- A window state as contracts see it.
use Rattle.std.specs.Prelude.{◌≡◌, true, int_lt, ℤ, ◌+◌, ◌^◌, ◌≤◌, Bool, List, [], ◌∷◌, Option, Some, None, option_map, if◌then◌else◌}
use Rattle.std.specs.FinMap.{FinMap, get}
use Rattle.plain_data.specs.Record.{Record}
use Rattle.plan_model.specs.declared.spec.WindowSpec.{WindowSpec}
use Rattle.plan_model.specs.declared.spec.Pane.{Pane}
use Rattle.plan_model.specs.declared.spec.Row.{Row}
use Rattle.plan_model.specs.Aggregates.{Aggregated, merge}
use Rattle.plan_model.specs.Rows.{pane_cmp, aggregate_at, is_due, row_at}

-- a window operator, from where on its windows are made of slices, and what stands in each pane of its open windows
pub record OpenWindows : Type 0 where
  pub window : WindowSpec
  pub from : ℤ
  pub totals : FinMap pane_cmp Aggregated

-- the window operator, what stands in its open windows, and whether an `add` found no memory
pub record StateData : Type 0 where
  pub window : WindowSpec
  pub windows : FinMap pane_cmp Aggregated
  pub has_failed : Bool

-- each window that some of the records reach can take those that reach it
abbrev pub HasRoom : WindowSpec → List Record → (Pane → Option Aggregated) → Type 0
HasRoom w records f = (q : Pane) (a b : Aggregated) → f q ≡ Some a → aggregate_at w records q ≡ Some b → a.count + b.count ≤ 2 ^ 41

abbrev pub HasRoomFor : WindowSpec → List Record → FinMap pane_cmp Aggregated → Type 0
HasRoomFor w records m = HasRoom w records (get m)

-- the same of the windows that begin before a number
abbrev pub HasRoomBefore : WindowSpec → ℤ → List Record → FinMap pane_cmp Aggregated → Type 0
HasRoomBefore w from records m =
    (q : Pane) → int_lt q.start from ≡ true → (a b : Aggregated) → get m q ≡ Some a → aggregate_at w records q ≡ Some b → a.count + b.count ≤ 2 ^ 41

-- the row of each pane whose window fires by a watermark
abbrev pub fired : WindowSpec → ℤ → (Pane → Option Aggregated) → Pane → Option Row
fired w watermark f q = if is_due w watermark q.start then option_map (row_at w q) (f q) else None

-- each record has come into each window of its time
abbrev pub TakesIn : List Record → OpenWindows → OpenWindows → Type 0
TakesIn records old new = (q : Pane) → get new.totals q ≡ merge old.window.aggregates (get old.totals q) (aggregate_at old.window records q)

-- a record has come into each window of its time that begins at `from` or later, and into no other
abbrev pub TakesInLater : Record → OpenWindows → OpenWindows → Type 0
TakesInLater r old new =
    (q : Pane) → get new.totals q
    ≡ (if int_lt q.start old.from then get old.totals q else merge old.window.aggregates (get old.totals q) (aggregate_at old.window (r ∷ []) q))
