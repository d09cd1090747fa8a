-- What a savepoint must meet for a job to go on from it, and the fault where it does not, in the order in which they
-- are decided.
use Rattle.std.specs.Prelude.{ℕ, ◌==◌, ◌^◌, ℤ, pos, ◌-ℤ◌, int_le, int_lt, nat_le, Bool, not, ◌&&◌, List, [], ◌∷◌, ◌++◌, length, Option, bytes_eq}
use Rattle.std.specs.List.{list_all, list_any, zip}
use Rattle.std.specs.Ordering.{int_eq}
use Rattle.answers.specs.Answer.{otherwise}
use Rattle.key_groups.specs.Groups.{key_group}
use Rattle.plan_model.specs.declared.limits.TheConstants.{TIME_LIMIT}
use Rattle.plan_model.specs.declared.spec.Aggregate.{Aggregate}
use Rattle.plan_model.specs.declared.spec.WindowSpec.{WindowSpec}
use Rattle.plan_model.specs.PlanData.{PlanData}
use Rattle.plan_model.specs.Windows.{is_start}
use Rattle.plan_model.specs.Rows.{is_due}
use Rattle.plan_record.specs.PlanRecord.{plan_record}
use Rattle.aggregates.specs.declared.kind.Kind.{Kind}
use Rattle.aggregates.specs.Kinds.{kind_of}
use Rattle.savepoint_codec.specs.Fields.{kind_code}
use Rattle.savepoint_codec.specs.EntriesData.{EntryData}
use Rattle.savepoint_codec.specs.declared.savepoint.SavedPartition.{SavedPartition}
use Rattle.savepoint_codec.specs.declared.savepoint.SavedGroup.{SavedGroup}
use Rattle.savepoint_codec.specs.declared.savepoint.Contents.{Contents}
use Rattle.stream_model.specs.declared.entry.Marked.{Marked}
use Rattle.stream_model.specs.InputData.{InputData}
use Rattle.stream_model.specs.Watermarks.{partition_watermark, merged_watermark, records_before}
use Rattle.legs.specs.declared.restore_fault.RestoreFault.{RestoreFault}
use Rattle.legs.specs.declared.restore_fault.RestoreFault.TheVariants.{MaxParallelism, UnknownUid, MissingUid, PlanChanged, Partitions, Offset, Watermark, WrongGroup, ClosedWindow, Count, Number}
use Rattle.restore.specs.Saved.{saved_under, saved_sources, cut_of}

-- the plan has as many key groups
unfoldable pub has_max : PlanData → Contents → Bool
has_max plan s = s.max == plan.max

-- each source of the savepoint is one of the plan's, and its window is the plan's
unfoldable pub has_known_uids : PlanData → Contents → Bool
has_known_uids plan s = list_all (λ x. list_any (λ source. bytes_eq source.uid x.uid) plan.sources) s.sources && bytes_eq s.window_uid plan.window.uid

-- each source of the plan is in the savepoint
unfoldable pub has_all_uids : PlanData → Contents → Bool
has_all_uids plan s = list_all (λ source. list_any (λ x. bytes_eq x.uid source.uid) s.sources) plan.sources

-- kinds are those of aggregates, in their order
abbrev pub are_kinds : List Kind → List Aggregate → Bool
are_kinds kinds aggregates = (length kinds == length aggregates) && list_all (λ x. kind_code x.0 == kind_code (kind_of x.1)) (zip kinds aggregates)

-- the plan has the record and the kinds of aggregates that the savepoint's had
unfoldable pub has_plan : PlanData → Contents → Bool
has_plan plan s = bytes_eq s.plan_record (plan_record plan) && are_kinds s.kinds plan.window.aggregates

-- each source has as many partitions as the plan says
unfoldable pub has_partitions : PlanData → Contents → Bool
has_partitions plan s = list_all (λ source. length (saved_under source.uid s.sources) == source.partitions) plan.sources

-- what is saved of each partition passes a test with the entries of the partition
abbrev pub every_partition : (SavedPartition × List Marked → Bool) → List (List SavedPartition) → List (List (List Marked)) → Bool
every_partition test saved sources = list_all (λ x. list_all test (zip x.0 x.1)) (zip saved sources)

-- no more entries were read than there are
abbrev pub is_within : SavedPartition × List Marked → Bool
is_within x = nat_le x.0.offset (length x.1)

-- the watermark is the one that the entries have brought that were read
abbrev pub is_watermark : SavedPartition × List Marked → Bool
is_watermark x = int_eq x.0.watermark (partition_watermark x.1 x.0.offset)

unfoldable pub has_offsets : PlanData → InputData → Contents → Bool
has_offsets plan i s = every_partition is_within (saved_sources plan s) i.sources

unfoldable pub has_watermarks : PlanData → InputData → Contents → Bool
has_watermarks plan i s = every_partition is_watermark (saved_sources plan s) i.sources

-- each entry of each key group passes a test of the group and the entry
abbrev pub every_entry : (ℕ → EntryData → Bool) → List SavedGroup → Bool
every_entry test groups = list_all (λ g. list_all (test g.group) g.entries.entries) groups

-- the entry stands in the key group of its key
abbrev pub is_in_group : ℕ → ℕ → EntryData → Bool
is_in_group max group e = key_group max e.pane.key == group

-- a time in range can have a window that begins at s: one that ends after -2^62, and begins before 2^62
abbrev pub is_reached : WindowSpec → ℤ → Bool
is_reached w s = int_le (pos 1 -ℤ w.size -ℤ TIME_LIMIT) s && int_lt s TIME_LIMIT

-- the entry's window is one of the plan's, which has not fired by the watermark
abbrev pub is_open : WindowSpec → ℤ → EntryData → Bool
is_open w t e = is_reached w e.pane.start && (is_start w e.pane.start && not (is_due w t e.pane.start))

-- the entry counts at most so many records
abbrev pub is_counted : ℕ → EntryData → Bool
is_counted most e = nat_le e.total.count most

-- each entry stands in the key group of its key
unfoldable pub has_groups : PlanData → Contents → Bool
has_groups plan s = every_entry (is_in_group plan.max) s.groups

-- each entry's window is one of the plan's, which has not fired by the watermark of all partitions at the savepoint's
-- cut
unfoldable pub has_open_windows : PlanData → InputData → Contents → Bool
has_open_windows plan i s = every_entry (λ g. is_open plan.window (merged_watermark i.sources (cut_of (saved_sources plan s)))) s.groups

-- no entry counts more records than stand before the savepoint's cut
unfoldable pub has_counts : PlanData → InputData → Contents → Bool
has_counts plan i s = every_entry (λ g. is_counted (length (records_before i.sources (cut_of (saved_sources plan s))))) s.groups

-- the number leaves room for those of many legs to come
unfoldable pub has_number : Contents → Bool
has_number s = nat_le s.number (2 ^ 63)

-- of the plan alone
unfoldable pub plan_requirements : PlanData → List (Contents → Option RestoreFault)
plan_requirements plan =
    otherwise MaxParallelism (has_max plan) ∷ otherwise UnknownUid (has_known_uids plan) ∷ otherwise MissingUid (has_all_uids plan) ∷ otherwise PlanChanged (has_plan plan)
    ∷ otherwise Partitions (has_partitions plan) ∷ []

-- of the plan and the input
unfoldable pub input_requirements : PlanData → InputData → List (Contents → Option RestoreFault)
input_requirements plan i =
    otherwise Offset (has_offsets plan i) ∷ otherwise Watermark (has_watermarks plan i) ∷ otherwise WrongGroup (has_groups plan) ∷ otherwise ClosedWindow (has_open_windows plan i)
    ∷ otherwise Count (has_counts plan i) ∷ otherwise Number has_number ∷ []

abbrev pub requirements : PlanData → InputData → List (Contents → Option RestoreFault)
requirements plan i = plan_requirements plan ++ input_requirements plan i
