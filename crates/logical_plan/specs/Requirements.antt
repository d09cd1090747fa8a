-- What a plan must meet, and the fault where it does not, in the order in which they are decided.
use Rattle.std.specs.Prelude.{ℕ, ℤ, pos, neg_ℤ, ◌*ℤ◌, int_le, int_lt, Bool, true, ◌&&◌, nat_le, List, [], ◌∷◌, ◌++◌, map, length, Option, Some, None}
use Rattle.std.specs.List.{list_all}
use Rattle.answers.specs.Answer.{otherwise}
use Rattle.json_parts.specs.Tests.{is_within, is_place}
use Rattle.key_groups.specs.declared.limits.TheConstants.{MOST_GROUPS}
use Rattle.plain_data.specs.declared.limits.TheConstants.{MOST_COLUMNS}
use Rattle.plan_model.specs.declared.limits.TheConstants.{MOST_SOURCES, MOST_PARTITIONS, MOST_CONDITIONS, GREATEST_BOUND, LONGEST_WINDOW, MOST_WINDOWS, MOST_AGGREGATES}
use Rattle.plan_model.specs.Uids.{is_nat_within, is_uid, are_distinct}
use Rattle.logical_plan.specs.declared.text.AggregateText.{AggregateText}
use Rattle.logical_plan.specs.declared.text.AggregateText.TheVariants.{Count, Sum, Least, Greatest}
use Rattle.logical_plan.specs.declared.text.PlanText.{PlanText}
use Rattle.logical_plan.specs.declared.fault.PlanFault.{PlanFault}
use Rattle.logical_plan.specs.declared.fault.PlanFault.TheVariants.{Columns, ColumnIndex, MaxParallelism, Sources, Partitions, Uid, UidTwice, Filters, WindowSize, WindowSlide, WindowOffset, Panes, Aggregates, Bound}

abbrev pub is_aggregate_of : ℤ → AggregateText → Bool
is_aggregate_of columns Count = true
is_aggregate_of columns (Sum column) = is_place columns column
is_aggregate_of columns (Least column) = is_place columns column
is_aggregate_of columns (Greatest column) = is_place columns column

-- the uids in plan order
abbrev pub text_uids : PlanText → List (List ℕ)
text_uids t = map (λ s. s.uid) t.sources ++ map (λ f. f.uid) t.filters ++ t.window.uid ∷ []

unfoldable pub has_columns : PlanText → Bool
has_columns t = is_within (pos 1) (pos MOST_COLUMNS) t.columns

-- time, key, and the columns of filters and aggregates
unfoldable pub has_column_indices : PlanText → Bool
has_column_indices t =
    is_place t.columns t.time && is_place t.columns t.key && list_all (λ f. is_place t.columns f.column) t.filters && list_all (is_aggregate_of t.columns) t.window.aggregates

unfoldable pub has_max : PlanText → Bool
has_max t = is_within (pos 1) (pos MOST_GROUPS) t.max

unfoldable pub has_sources : PlanText → Bool
has_sources t = is_nat_within 1 MOST_SOURCES (length t.sources)

unfoldable pub has_partitions : PlanText → Bool
has_partitions t = list_all (λ s. is_within (pos 1) (pos MOST_PARTITIONS) s.partitions) t.sources

unfoldable pub has_uids : PlanText → Bool
has_uids t = list_all is_uid (text_uids t)

unfoldable pub has_distinct_uids : PlanText → Bool
has_distinct_uids t = are_distinct (text_uids t)

unfoldable pub has_filters : PlanText → Bool
has_filters t = nat_le (length t.filters) MOST_CONDITIONS && nat_le (length t.window.having) MOST_CONDITIONS

unfoldable pub has_size : PlanText → Bool
has_size t = is_within (pos 1) LONGEST_WINDOW t.window.size

unfoldable pub has_slide : PlanText → Bool
has_slide t = is_within (pos 1) LONGEST_WINDOW t.window.slide

unfoldable pub has_offset : PlanText → Bool
has_offset t = int_lt (neg_ℤ t.window.slide) t.window.offset && int_lt t.window.offset t.window.slide

-- size / slide rounded up is at most 256
unfoldable pub has_panes : PlanText → Bool
has_panes t = int_le t.window.size (MOST_WINDOWS *ℤ t.window.slide)

unfoldable pub has_aggregates : PlanText → Bool
has_aggregates t = is_nat_within 1 MOST_AGGREGATES (length t.window.aggregates) && list_all (λ h. is_place (pos (length t.window.aggregates)) h.aggregate) t.window.having

abbrev pub is_bound : Option ℤ → Bool
is_bound None = true
is_bound (Some b) = is_within (pos 0) GREATEST_BOUND b

unfoldable pub has_bounds : PlanText → Bool
has_bounds t = list_all (λ s. is_bound s.bound) t.sources

unfoldable pub requirements : List (PlanText → Option PlanFault)
requirements = otherwise Columns has_columns ∷ otherwise ColumnIndex has_column_indices ∷ otherwise MaxParallelism has_max ∷ otherwise Sources has_sources ∷ otherwise Partitions has_partitions ∷ otherwise Uid has_uids ∷ otherwise UidTwice has_distinct_uids ∷ otherwise Filters has_filters ∷ otherwise WindowSize has_size ∷ otherwise WindowSlide has_slide ∷ otherwise WindowOffset has_offset ∷ otherwise Panes has_panes ∷ otherwise Aggregates has_aggregates ∷ otherwise Bound has_bounds ∷ []
