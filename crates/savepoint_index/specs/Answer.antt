-- What is said of bytes: a savepoint, or the first fault; and what the readers answer.
use Rattle.std.specs.Prelude.{◌≡◌, ℕ, ◌==◌, List, [], ◌∷◌, length, Result, Ok, Err, Option, Some, None, if◌then◌else◌}
use Rattle.byte_fields.specs.Format.{whole}
use Rattle.savepoint_codec.specs.declared.fault.SaveFault.{SaveFault}
use Rattle.savepoint_codec.specs.declared.savepoint.Contents.{Contents}
use Rattle.savepoint_codec.specs.declared.savepoint.SavedGroup.{SavedGroup}
use Rattle.savepoint_codec.specs.EntriesData.{EntriesData}
use Rattle.savepoint_codec.specs.Answer.{fault_said, unindexed_of_bytes}
use Rattle.savepoint_index.specs.declared.head.GroupHead.{GroupHead}
use Rattle.savepoint_index.specs.Layout.{has_index, indexed_format}

-- the savepoint that bytes spell in one of the layouts, all of them, or the first fault from their front
unfoldable pub savepoint_of_bytes : List ℕ → Result Contents SaveFault
savepoint_of_bytes bytes = if has_index bytes then fault_said (whole indexed_format bytes) else unindexed_of_bytes bytes

-- the entries of a key group: none where it has none
abbrev pub entries_in : ℕ → ℕ → List SavedGroup → EntriesData
entries_in width group [] = record { width = width; entries = [] }
entries_in width group (g ∷ gs) = if g.group == group then g.entries else entries_in width group gs

abbrev pub entries_of_group : ℕ → Contents → EntriesData
entries_of_group group s = entries_in (length s.kinds) group s.groups

-- a key group's place in an index, if it has one
abbrev pub head_of_group : ℕ → List GroupHead → Option GroupHead
head_of_group group [] = None
head_of_group group (head ∷ heads) = if head.group == group then Some head else head_of_group group heads

-- the answer is these entries, unless memory ran out
abbrev pub GivesEntries : {F : Type 0} → F → Result EntriesData F → EntriesData → Type 0
GivesEntries memory (Ok entries) said = entries ≡ said
GivesEntries memory (Err fault) said = fault ≡ memory
