-- The windows of a state as a function of a pane, and what every state's windows meet.
use Rattle.std.specs.Prelude.{◌≡◌, ℕ, ◌^◌, ℤ, pos, neg_ℤ, ◌+ℤ◌, ◌≤◌, ◌<◌, ◌<ℤ◌, length, map, List, Option, Some, option_map, Bool, ◌&&◌}
use Rattle.std.specs.Int.{int_rem_euclid}
use Rattle.std.specs.Map.{keys_of, lookup}
use Rattle.std.specs.Ordering.{int_eq, is_eq}
use Rattle.std.specs.List.{All, IsDistinct, list_any}
use Rattle.plan_model.specs.declared.spec.WindowSpec.{WindowSpec}
use Rattle.plan_model.specs.declared.spec.Pane.{Pane}
use Rattle.plan_model.specs.PlanData.{IsWindow, has_column}
use Rattle.plan_model.specs.Aggregates.{Aggregated}
use Rattle.plan_model.specs.Rows.{pane_cmp}
use Rattle.plan_model.specs.declared.limits.TheConstants.{TIME_LIMIT, LONGEST_WINDOW, MOST_AGGREGATES}
use Rattle.aggregates.specs.Kinds.{AccData, kind_of}

-- p is the pane q
abbrev pub is_pane : Pane → Pane → Bool
is_pane p q = int_eq p.start q.start && int_eq p.key q.key

-- the accumulator of a pane, among the entries of the windows
abbrev pub acc_at : List (Pane × AccData) → Pane → Option AccData
acc_at es q = lookup (is_pane q) es

-- what stands in a pane
abbrev pub total_at : List (Pane × AccData) → Pane → Option Aggregated
total_at es q = option_map (λ a. a.total) (acc_at es q)

-- the starts of windows of times in range
pub record IsStart (s : ℤ) : Type 0 where
  pub above : neg_ℤ (TIME_LIMIT +ℤ LONGEST_WINDOW) <ℤ s
  pub below : s <ℤ TIME_LIMIT

-- no pane stands twice, each has the plan's aggregates, and a start in range
pub record AreWindows (w : WindowSpec) (es : List (Pane × AccData)) : Type 0 where
  pub distinct : IsDistinct is_pane (keys_of es)
  pub kinds : (q : Pane) (a : AccData) → acc_at es q ≡ Some a → a.kinds ≡ map kind_of w.aggregates
  pub starts : (q : Pane) (a : AccData) → acc_at es q ≡ Some a → IsStart q.start

-- whether q is one of the panes
abbrev pub has_pane : List Pane → Pane → Bool
has_pane ps q = list_any (λ p. is_eq (pane_cmp q p)) ps

-- where a window of the operator may begin at a number or later, its slide divides its size
abbrev pub AreWhole : WindowSpec → ℤ → Type 0
AreWhole w from = from <ℤ pos (2 ^ 64) → int_rem_euclid w.size w.slide ≡ pos 0

-- a window operator as every plan has it
pub record IsOperator (w : WindowSpec) : Type 0 where
  pub range : IsWindow w
  pub some : 1 ≤ length w.aggregates
  pub few : length w.aggregates ≤ MOST_AGGREGATES

-- it finds its columns in records of the width
pub record CanAggregate (width : ℕ) (w : WindowSpec) : Type 0 where
  pub operator : IsOperator w
  pub time : w.time < width
  pub key : w.key < width
  pub columns : All (has_column width) w.aggregates
