-- The panes of open windows, by the start of their window.
use Rattle.std.specs.Prelude.{◌≡◌, ℤ, true, map, Bool, ◌&&◌, ◌||◌, ◌++◌, List, [], ◌∷◌, Option, is_some}
use Rattle.std.specs.List.{list_any}
use Rattle.std.specs.Ordering.{int_eq}
use Rattle.std.specs.Global.{Vec}
use Rattle.plan_model.specs.declared.spec.Pane.{Pane}
use Rattle.plan_model.specs.declared.spec.WindowSpec.{WindowSpec}
use Rattle.plan_model.specs.Aggregates.{Aggregated}
use Rattle.plan_model.specs.Windows.{is_window_of}

-- whether a key is one of some
abbrev pub has_key : ℤ → List ℤ → Bool
has_key k keys = list_any (int_eq k) keys

-- whether a pane is open: its key is one of those of its start
abbrev pub has_open : List (ℤ × Vec ℤ) → Pane → Bool
has_open opened q = list_any (λ e. int_eq q.start e.0 && has_key q.key e.1.items) opened

-- the panes of keys at a start
abbrev pub panes_from : ℤ → List ℤ → List Pane
panes_from start keys = map (λ k. record { start = start; key = k }) keys

-- the open panes one by one
abbrev pub open_panes : List (ℤ × Vec ℤ) → List Pane
open_panes [] = []
open_panes (e ∷ es) = panes_from e.0 e.1.items ++ open_panes es

-- each pane where something stands is open
abbrev pub AreOpen : List (ℤ × Vec ℤ) → (Pane → Option Aggregated) → Type 0
AreOpen opened f = (q : Pane) → is_some (f q) ≡ true → has_open opened q ≡ true

-- a pane that is open was so, or is one of a key at a window of a time
abbrev pub OpensOnly : WindowSpec → ℤ → ℤ → List (ℤ × Vec ℤ) → List (ℤ × Vec ℤ) → Type 0
OpensOnly w key time old new = (q : Pane) → has_open new q ≡ true → (has_open old q || (int_eq key q.key && is_window_of w time q.start)) ≡ true
