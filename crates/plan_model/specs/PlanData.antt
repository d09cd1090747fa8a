-- A plan as contracts see it.
use Rattle.std.specs.Prelude.{◌≡◌, ℕ, ℤ, pos, neg_ℤ, ◌*ℤ◌, ◌<◌, ◌≤◌, ◌≤ℤ◌, ◌<ℤ◌, FitsSigned, true, Option, Some, None, List, [], ◌∷◌, ◌++◌, map, length}
use Rattle.std.specs.Int.{w64}
use Rattle.std.specs.List.{All}
use Rattle.key_groups.specs.declared.limits.TheConstants.{MOST_GROUPS}
use Rattle.plain_data.specs.declared.limits.TheConstants.{MOST_COLUMNS}
use Rattle.plan_model.specs.declared.limits.TheConstants.{MOST_SOURCES, MOST_PARTITIONS, MOST_CONDITIONS, GREATEST_BOUND, LONGEST_WINDOW, MOST_WINDOWS, MOST_AGGREGATES}
use Rattle.plan_model.specs.Uids.{is_uid, are_distinct}
use Rattle.plan_model.specs.declared.spec.SourceSpec.{SourceSpec}
use Rattle.plan_model.specs.declared.spec.FilterSpec.{FilterSpec}
use Rattle.plan_model.specs.declared.spec.Aggregate.{Aggregate}
use Rattle.plan_model.specs.declared.spec.Aggregate.TheVariants.{Count, Sum, Least, Greatest}
use Rattle.plan_model.specs.declared.spec.WindowSpec.{WindowSpec}

pub record PlanData : Type 0 where
  pub columns : ℕ
  pub max : ℕ
  pub sources : List SourceSpec
  pub filters : List FilterSpec
  pub window : WindowSpec

abbrev pub plan_data_of : ℕ → ℕ → List SourceSpec → List FilterSpec → WindowSpec → PlanData
plan_data_of columns max sources filters window = record { columns = columns; max = max; sources = sources; filters = filters; window = window }

-- the uids of sources, filters and window, in plan order
abbrev pub uids : PlanData → List (List ℕ)
uids p = map (λ s. s.uid) p.sources ++ map (λ f. f.uid) p.filters ++ p.window.uid ∷ []

-- the aggregate's column is one of the columns; a count has none
abbrev pub has_column : ℕ → Aggregate → Type 0
has_column columns Count = Unit {0}
has_column columns (Sum c) = c < columns
has_column columns (Least c) = c < columns
has_column columns (Greatest c) = c < columns

-- the window's numbers: size and slide from 1 to 2^40, an offset less than a slide from 0, and at most 256 windows of a
-- time
pub record IsWindow (w : WindowSpec) : Type 0 where
  pub sized : pos 1 ≤ℤ w.size
  pub size_small : w.size ≤ℤ LONGEST_WINDOW
  pub slides : pos 1 ≤ℤ w.slide
  pub slide_small : w.slide ≤ℤ LONGEST_WINDOW
  pub offset_above : neg_ℤ w.slide <ℤ w.offset
  pub offset_below : w.offset <ℤ w.slide
  pub panes : w.size ≤ℤ (MOST_WINDOWS *ℤ w.slide)

-- the bound of a source that makes its own watermarks: from 0 to 2^40
abbrev pub IsBound : Option ℤ → Type 0
IsBound None = Unit {0}
IsBound (Some b) = (pos 0 ≤ℤ b) × (b ≤ℤ GREATEST_BOUND)

-- what every plan that is read meets
pub record IsPlan (p : PlanData) : Type 0 where
  pub columned : 1 ≤ p.columns
  pub columns_few : p.columns ≤ MOST_COLUMNS
  pub time : p.window.time < p.columns
  pub key : p.window.key < p.columns
  pub filter_columns : All (λ f. f.column < p.columns) p.filters
  pub aggregate_columns : All (has_column p.columns) p.window.aggregates
  pub grouped : 1 ≤ p.max
  pub max_small : p.max ≤ MOST_GROUPS
  pub sourced : 1 ≤ length p.sources
  pub sources_few : length p.sources ≤ MOST_SOURCES
  pub partitioned : All (λ s. 1 ≤ s.partitions) p.sources
  pub partitions_few : All (λ s. s.partitions ≤ MOST_PARTITIONS) p.sources
  pub bounded : All (λ s. IsBound s.bound) p.sources
  pub named : All (λ uid. is_uid uid ≡ true) (uids p)
  pub distinct : are_distinct (uids p) ≡ true
  pub filters_few : length p.filters ≤ MOST_CONDITIONS
  pub filter_values : All (λ f. FitsSigned w64 f.value) p.filters
  pub window : IsWindow p.window
  pub aggregated : 1 ≤ length p.window.aggregates
  pub aggregates_few : length p.window.aggregates ≤ MOST_AGGREGATES
  pub having_few : length p.window.having ≤ MOST_CONDITIONS
  pub having_values : All (λ h. FitsSigned w64 h.value) p.window.having
  pub having_places : All (λ h. h.aggregate < length p.window.aggregates) p.window.having
