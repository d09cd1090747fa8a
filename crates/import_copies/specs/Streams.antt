-- What was written of a partition to its streams: as one text, or dealt out to the parts of the input. What a stream
-- holds may be unknown.
use Rattle.std.specs.Prelude.{◌≡◌, ℕ, ◌<◌, List, ◌∷◌, ◌++◌, slice_index_or, Option, Some, None, Result, Ok, Err}
use Rattle.std.specs.Io.KnownBytes.{Appends}
use Rattle.import_entries.specs.declared.rule.EntryRule.{EntryRule}
use Rattle.import_entries.specs.Entries.{place_fault}
use Rattle.entry_texts.specs.EntryTexts.{end_text}
use Rattle.entry_texts.specs.Partitions.{Row, Holds, AreTimely, times_of, rows_text, is_none}
use Rattle.entry_texts.specs.declared.partition.PartitionText.{PartitionText}
use Rattle.entry_texts.specs.declared.partition.PutFault.{PutFault}
use Rattle.entry_texts.specs.declared.partition.PutFault.TheVariants as put
use Rattle.dealt_texts.specs.Parts.{ended}
use Rattle.dealt_texts.specs.Texts.{HoldsParts, part_of_rows}
use Rattle.dealt_texts.specs.declared.dealing.Dealing.{Dealing}
use Rattle.dealt_texts.specs.declared.texts.PartTexts.{PartTexts}
use Rattle.import_copies.specs.declared.row_texts.RowTexts.{RowTexts}
use Rattle.import_copies.specs.declared.row_texts.RowTexts.TheVariants.{Whole, Parts}

abbrev pub rule_of : RowTexts → EntryRule
rule_of (Whole partition) = partition.rule
rule_of (Parts parts) = parts.rule

abbrev pub dealing_of : RowTexts → Option Dealing
dealing_of (Whole partition) = None
dealing_of (Parts parts) = Some parts.dealing

-- what the stream at a place holds
abbrev pub stream_at : List (Option (List ℕ)) → ℕ → Option (List ℕ)
stream_at streams i = slice_index_or streams i None

-- from the start on what was taken out of a partition's text, of these rows, has been written
abbrev pub WritesWhole : List Row → Option (List ℕ) → Option (List ℕ) → PartitionText → Type 0
WritesWhole rows start now partition = (written : List ℕ) × Holds rows written partition × Appends start now written

-- the same of the texts of all parts, each to the stream at its place
abbrev pub WritesParts : List Row → List (Option (List ℕ)) → List (Option (List ℕ)) → PartTexts → Type 0
WritesParts rows start now parts = (written : ℕ → List ℕ) × HoldsParts rows written parts × ((i : ℕ) → i < parts.dealing.parts → Appends (stream_at start i) (stream_at now i) (written i))

-- the one or the other
abbrev pub WritesRows : List Row → List (Option (List ℕ)) → List (Option (List ℕ)) → RowTexts → Type 0
WritesRows rows start now (Whole partition) = WritesWhole rows (stream_at start 0) (stream_at now 0) partition
WritesRows rows start now (Parts parts) = WritesParts rows start now parts

-- the row stands behind those before; or it goes nowhere, and nothing changes
abbrev pub PutsOne : List Row → List (Option (List ℕ)) → List (Option (List ℕ)) → Row → RowTexts → RowTexts → Result (Unit {0}) PutFault → Type 0
PutsOne before start now row old new (Ok _) = (place_fault (rule_of old).most_rows (rule_of old).bound (times_of before) row.time ≡ None) × WritesRows (row ∷ before) start now new
PutsOne before start now row old new (Err (put.Place fault)) = (place_fault (rule_of old).most_rows (rule_of old).bound (times_of before) row.time ≡ Some fault) × WritesRows before start now new
PutsOne before start now row old new (Err put.Memory) = Unit {0}

-- the text of a whole partition was written, of these rows of which none is late
abbrev pub WritesPartition : EntryRule → List Row → Option (List ℕ) → Option (List ℕ) → Type 0
WritesPartition rule rows start now = AreTimely rule.most_rows rule.bound rows × Appends start now (rows_text rule.most_rows rule.bound rows ++ end_text (is_none rows))

-- the text of its part was written to each stream
abbrev pub DealsPartition : EntryRule → Dealing → List Row → List (Option (List ℕ)) → List (Option (List ℕ)) → Type 0
DealsPartition rule dealing rows start now = AreTimely rule.most_rows rule.bound rows × ((i : ℕ) → i < dealing.parts → Appends (stream_at start i) (stream_at now i) (ended (part_of_rows rule dealing i rows)))

-- the one or the other
abbrev pub WritesAll : EntryRule → Option Dealing → List Row → List (Option (List ℕ)) → List (Option (List ℕ)) → Type 0
WritesAll rule None rows start now = WritesPartition rule rows (stream_at start 0) (stream_at now 0)
WritesAll rule (Some dealing) rows start now = DealsPartition rule dealing rows start now
