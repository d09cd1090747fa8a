-- What a savepoint holds: it names no task and no layout.
use Rattle.std.specs.Prelude.{ℕ, ◌==◌, Bool, List, [], ◌∷◌, length, map, position, slice_index_or, bytes_eq}
use Rattle.std.specs.FinMap.{FinMap, entries}
use Rattle.std.specs.List.{filter, flat_map, range_with_len}
use Rattle.std.specs.Option.{option_map_or}
use Rattle.std.specs.Ordering.{nat_cmp}
use Rattle.std.specs.Cmp.Lexicographic.{slice_cmp}
use Rattle.key_groups.specs.Groups.{key_group}
use Rattle.plan_model.specs.declared.spec.Pane.{Pane}
use Rattle.plan_model.specs.Aggregates.{Aggregated}
use Rattle.plan_model.specs.PlanData.{PlanData, uids}
use Rattle.plan_model.specs.Rows.{pane_cmp}
use Rattle.plan_record.specs.PlanRecord.{ascending, plan_record}
use Rattle.aggregates.specs.Kinds.{kind_of}
use Rattle.savepoint_codec.specs.EntriesData.{EntryData}
use Rattle.savepoint_codec.specs.declared.savepoint.SavedPartition.{SavedPartition}
use Rattle.savepoint_codec.specs.declared.savepoint.SavedSource.{SavedSource}
use Rattle.savepoint_codec.specs.declared.savepoint.SavedGroup.{SavedGroup}
use Rattle.savepoint_codec.specs.declared.savepoint.Contents.{Contents}

-- a pane with what stands in it
abbrev pub saved_entry : Pane × Aggregated → EntryData
saved_entry e = record { pane = e.0; total = e.1 }

-- the pane's key is of this group, among so many
abbrev pub is_in_group : ℕ → ℕ → Pane → Bool
is_in_group max group q = key_group max q.key == group

-- what stands in the panes of a key group, in the order of start and key
abbrev pub entries_in_group : ℕ → FinMap pane_cmp Aggregated → ℕ → List EntryData
entries_in_group max windows group = map saved_entry (filter (λ e. is_in_group max group e.0) (entries windows))

-- a key group with its entries, of so many numbers each; none where it has no entry
abbrev pub saved_group : ℕ → ℕ → List EntryData → List SavedGroup
saved_group width group [] = []
saved_group width group (e ∷ es) = record { group = group; entries = record { width = width; entries = e ∷ es } } ∷ []

-- the key groups that have entries, ascending
abbrev pub saved_groups : ℕ → ℕ → FinMap pane_cmp Aggregated → List SavedGroup
saved_groups max width windows = flat_map (λ group. saved_group width group (entries_in_group max windows group)) (range_with_len 0 max)

-- the partitions of the source with a uid, where those of the plan's sources stand in plan order
abbrev pub partitions_under : PlanData → List (List SavedPartition) → List ℕ → List SavedPartition
partitions_under p sources uid = option_map_or (λ x. slice_index_or sources x []) (position (bytes_eq uid) (uids p)) []

abbrev pub saved_source : PlanData → List (List SavedPartition) → List ℕ → SavedSource
saved_source p sources uid = record { uid = uid; partitions = partitions_under p sources uid }

-- the uids of a plan's sources, ascending
abbrev pub source_uids : PlanData → List (List ℕ)
source_uids p = ascending (slice_cmp nat_cmp) (map (λ s. s.uid) p.sources)

-- the savepoint of this number, with how far the partitions of the plan's sources were read, in plan order, and what
-- stands in the windows
abbrev pub savepoint_of : PlanData → List (List SavedPartition) → FinMap pane_cmp Aggregated → ℕ → Contents
savepoint_of p sources windows number = record {
  number = number;
  plan_record = plan_record p;
  max = p.max;
  sources = map (saved_source p sources) (source_uids p);
  window_uid = p.window.uid;
  kinds = map kind_of p.window.aggregates;
  groups = saved_groups p.max (length p.window.aggregates) windows;
}
