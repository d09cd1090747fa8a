-- The fields of entries, and the value that they stand for: the numbers of all entries stand in one list.
use Rattle.std.specs.Prelude.{◌≡◌, ℕ, ℤ, ◌*◌, List, [], ◌∷◌, length, take, drop}
use Rattle.savepoint_codec.specs.declared.entries.Head.{Head}
use Rattle.savepoint_codec.specs.declared.entries.Entry.{Entry}
use Rattle.savepoint_codec.specs.declared.entries.Entries.TheInside.{Inside}
use Rattle.savepoint_codec.specs.EntriesData.{EntryData, EntriesData}
use Rattle.savepoint_codec.specs.Numbers.{numbers_of, list_of}

-- what the head of an entry and its numbers say
abbrev pub entry_of : Head → List ℤ → EntryData
entry_of head numbers = record { pane = head.pane; total = record { count = head.count; numbers = numbers } }

abbrev pub entries_of : ℕ → List Head → List ℤ → List EntryData
entries_of width [] numbers = []
entries_of width (head ∷ heads) numbers = entry_of head (take width numbers) ∷ entries_of width heads (drop width numbers)

abbrev pub entries_view : Inside → EntriesData
entries_view e = record { width = e.width; entries = entries_of e.width e.heads.items (list_of e.numbers) }

abbrev pub IsEntriesInside : Inside → Type 0
IsEntriesInside e = length (list_of e.numbers) ≡ e.width * length e.heads.items

-- one entry, borrowed
abbrev pub entry_data : Entry → EntryData
entry_data e = record { pane = e.pane; total = record { count = e.count; numbers = numbers_of e.numbers } }
