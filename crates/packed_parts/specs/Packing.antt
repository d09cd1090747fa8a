-- Parts of the windows of a task, and the entries that they are packed as.
use Rattle.std.specs.Prelude.{List}
use Rattle.aggregates.specs.declared.kind.Kind.{Kind}
use Rattle.packed_parts.specs.declared.part.Part.{Part}
use Rattle.savepoint_codec.specs.EntriesData.{EntryData}

-- the kinds that parts have, and the parts
pub record PackingData : Type 0 where
  pub kinds : List Kind
  pub parts : List Part

-- what stands in a pane, as an entry
abbrev pub entry_of : Part → EntryData
entry_of part = record { pane = part.pane; total = part.acc.total }

-- an entry of these kinds, as what stands in a pane
abbrev pub part_of : List Kind → EntryData → Part
part_of kinds e = record { pane = e.pane; acc = record { kinds = kinds; total = e.total } }
