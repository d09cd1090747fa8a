-- Key groups of a savepoint, of which accumulators can be made.
use Rattle.std.specs.Prelude.{◌≡◌, true, List, length}
use Rattle.std.specs.List.{All}
use Rattle.aggregates.specs.declared.kind.Kind.{Kind}
use Rattle.aggregates.specs.Kinds.{is_entry}
use Rattle.savepoint_codec.specs.declared.savepoint.SavedGroup.{SavedGroup}
use Rattle.savepoint_codec.specs.EntriesData.{EntryData}

abbrev pub IsSoundEntry : List Kind → EntryData → Type 0
IsSoundEntry kinds e = is_entry kinds e.total.count e.total.numbers ≡ true

-- each entry has a number for each kind that its records can come to
pub record IsSoundGroup (kinds : List Kind) (g : SavedGroup) : Type 0 where
  pub width : g.entries.width ≡ length kinds
  pub entries : All (IsSoundEntry kinds) g.entries.entries
