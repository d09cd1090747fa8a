-- The places of panes, as contracts see them.
use Rattle.std.specs.Prelude.{◌≡◌, ℕ, ℤ, ◌*◌, length, map, List, Some}
use Rattle.plan_model.specs.declared.spec.WindowSpec.{WindowSpec}
use Rattle.plan_model.specs.declared.spec.Pane.{Pane}
use Rattle.aggregates.specs.Kinds.{AccData, IsAcc, kind_of}
use Rattle.window_state.specs.Windows.{IsOperator, AreWindows, acc_at}
use Rattle.place_words.specs.Words.{stride, entries_in}

-- a window operator, and what stands in each pane that has a place
pub record PlacesData : Type 0 where
  pub window : WindowSpec
  pub entries : List (Pane × AccData)

-- what stands in each pane is an accumulator
abbrev pub AreSound : List (Pane × AccData) → Type 0
AreSound es = (q : Pane) (a : AccData) → acc_at es q ≡ Some a → IsAcc a

-- each pane has a place of n words
pub record ArePlaces (w : WindowSpec) (n : ℕ) (ps : List Pane) (ws : List ℤ) : Type 0 where
  pub operator : IsOperator w
  pub stride : n ≡ stride (map kind_of w.aggregates)
  pub len : length ws ≡ length ps * n
  pub windows : AreWindows w (entries_in (map kind_of w.aggregates) ws 0 ps)
  pub sound : AreSound (entries_in (map kind_of w.aggregates) ws 0 ps)
