-- What a leg begins with, as contracts see it.
use Rattle.std.specs.Prelude.{◌≡◌, ℕ, true, List, [], length, map}
use Rattle.std.specs.List.{All}
use Rattle.plan_model.specs.PlanData.{PlanData}
use Rattle.layout_rules.specs.Layouts.{partition_counts}
use Rattle.aggregates.specs.declared.kind.Kind.{Kind}
use Rattle.aggregates.specs.Kinds.{is_entry}
use Rattle.savepoint_codec.specs.declared.savepoint.SavedPartition.{SavedPartition}
use Rattle.savepoint_codec.specs.declared.savepoint.SavedGroup.{SavedGroup}

-- the number of the savepoint that it goes on from; for each source, in plan order, its partitions: how far each was
-- read, and its watermark there; the kinds of the aggregates of what stands in the windows, and that, by key group
pub record StartData : Type 0 where
  pub number : ℕ
  pub sources : List (List SavedPartition)
  pub kinds : List Kind
  pub groups : List SavedGroup

-- one with nothing in the windows
abbrev pub start_data_of : ℕ → List (List SavedPartition) → StartData
start_data_of number sources = record { number = number; sources = sources; kinds = []; groups = [] }

-- the cut that it begins at
abbrev pub offsets_of : StartData → List (List ℕ)
offsets_of s = map (map (λ p. p.offset)) s.sources

-- it has the plan's sources, and of each its partitions
abbrev pub IsStartOf : PlanData → StartData → Type 0
IsStartOf p s = map (λ partitions. length partitions) s.sources ≡ partition_counts p

-- what stands in the windows is what an entry of a savepoint may hold, with these kinds of aggregates
abbrev pub AreEntries : List Kind → List SavedGroup → Type 0
AreEntries kinds groups = All (λ g. All (λ e. is_entry kinds e.total.count e.total.numbers ≡ true) g.entries.entries) groups
