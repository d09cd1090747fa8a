-- What was read of an input before a cut.
use Rattle.std.specs.Prelude.{◌≡◌, ℕ, List, length, map}
use Rattle.sha2.specs.Sha256.{sha256}
use Rattle.stream_model.specs.declared.entry.Marked.{Marked}
use Rattle.stream_model.specs.InputData.{InputData}
use Rattle.input_changes.specs.Agreement.{entries_before, HaveSameEntries}
use Rattle.receipts.specs.declared.digests.Counted.{Counted}
use Rattle.receipts.specs.Lines.{lines_of}

-- of entries that were read: how many they are, and the digest of their lines
abbrev pub was_read_of : List Marked → Counted
was_read_of entries = record { count = length entries; digest = sha256 (lines_of entries) }

-- that of each partition of each source, as far as a cut goes
abbrev pub read_before : List (List (List Marked)) → List (List ℕ) → List (List Counted)
read_before sources cut = map (map was_read_of) (entries_before sources cut)

-- where the entries before a cut are the same of two inputs, so is what was read
abbrev pub SameEntriesAreRead : Type 0
SameEntriesAreRead = (old new : InputData) → (cut : List (List ℕ)) → HaveSameEntries old new cut → read_before old.sources cut ≡ read_before new.sources cut
