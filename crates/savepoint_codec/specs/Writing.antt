-- What the writers of a savepoint ask for: lists short enough for their counts, which each savepoint has.
use Rattle.std.specs.Prelude.{◌≡◌, ℕ, ◌<◌, List, ◌++◌, length}
use Rattle.std.specs.List.{All, flat_map}
use Rattle.byte_fields.specs.Fields.{u64_field, i128_field}
use Rattle.aggregates.specs.declared.kind.Kind.{Kind}
use Rattle.savepoint_codec.specs.declared.savepoint.SavedSource.{SavedSource}
use Rattle.savepoint_codec.specs.declared.savepoint.SavedGroup.{SavedGroup}
use Rattle.savepoint_codec.specs.declared.savepoint.Contents.{Contents}
use Rattle.savepoint_codec.specs.EntriesData.{EntryData}
use Rattle.savepoint_codec.specs.Fields.{pane_field}

abbrev pub HasFewPartitions : SavedSource → Type 0
HasFewPartitions s = length s.partitions < 256

-- a number for each kind
abbrev pub IsOfKinds : List Kind → EntryData → Type 0
IsOfKinds kinds e = length e.total.numbers ≡ length kinds

abbrev pub AreOfKinds : List Kind → SavedGroup → Type 0
AreOfKinds kinds g = All (IsOfKinds kinds) g.entries.entries

pub record IsShort (s : Contents) : Type 0 where
  pub plan_record : length s.plan_record < 65536
  pub few_sources : length s.sources < 256
  pub sources : All HasFewPartitions s.sources
  pub kinds : length s.kinds < 256
  pub few_groups : length s.groups < 65536
  pub groups : All (AreOfKinds s.kinds) s.groups

-- the bytes of an entry
abbrev pub entry_bytes : EntryData → List ℕ
entry_bytes e = pane_field.spell e.pane ++ u64_field.spell e.total.count ++ flat_map i128_field.spell e.total.numbers
