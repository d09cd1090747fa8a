-- The laws of windows and of aggregates.
use Rattle.std.specs.Prelude.{◌≡◌, ℤ, pos, ◌<ℤ◌, ◌↔◌, true, List, ◌++◌}
use Rattle.plain_data.specs.Record.{Record}
use Rattle.plan_model.specs.declared.spec.Aggregate.{Aggregate}
use Rattle.plan_model.specs.declared.spec.WindowSpec.{WindowSpec}
use Rattle.plan_model.specs.Bag.{IsSameBag}
use Rattle.plan_model.specs.Windows.{is_window_of, IsWindowOf}
use Rattle.plan_model.specs.Aggregates.{aggregate_of, merge}

-- the test of a window is what Flink's documentation says: a start that is the offset modulo the slide, and the time in
-- its interval
abbrev pub WindowsAreThose : Type 0
WindowsAreThose = (w : WindowSpec) (t s : ℤ) → pos 0 <ℤ w.slide → (is_window_of w t s ≡ true) ↔ IsWindowOf w t s

-- what records come to does not depend on their order
abbrev pub AggregatesIgnoreOrder : Type 0
AggregatesIgnoreOrder = (ks : List Aggregate) (xs ys : List Record) → IsSameBag xs ys → aggregate_of ks xs ≡ aggregate_of ks ys

-- what two parts come to, merged, is what both together come to
abbrev pub AggregatesMerge : Type 0
AggregatesMerge = (ks : List Aggregate) (xs ys : List Record) → aggregate_of ks (xs ++ ys) ≡ merge ks (aggregate_of ks xs) (aggregate_of ks ys)
