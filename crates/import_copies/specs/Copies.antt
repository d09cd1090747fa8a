-- What is written of a partition, and where each record of its files goes.
use Rattle.std.specs.Prelude.{◌≡◌, ℕ, List, [], Option, Some, None}
use Rattle.import_entries.specs.declared.rule.EntryRule.{EntryRule}
use Rattle.entry_texts.specs.Partitions.{Row}
use Rattle.dealt_texts.specs.declared.dealing.Dealing.{Dealing}
use Rattle.import_fates.specs.Counts.{counts_of}
use Rattle.import_fates.specs.Fates.{Taken, fate_said, fates, keys_with, keys_after, rows_with, rows_after}
use Rattle.import_fates.specs.declared.counts.FateCounts.{FateCounts}
use Rattle.imports.specs.Placing.{IsPlaced}
use Rattle.imports.specs.Reading.{Rest, StandsAt, IsBegun}
use Rattle.imports.specs.declared.kinds.Records.{Records}
use Rattle.import_copies.specs.Asking.{Asks}
use Rattle.import_copies.specs.Files.{Asked, TakesRecord, TakesAll, AreOfFile, HasNone}
use Rattle.known_records.specs.Known.{keys_in}
use Rattle.import_copies.specs.Outcomes.{fate_of}
use Rattle.import_copies.specs.declared.files.ImportRule.{ImportRule}
use Rattle.known_records.specs.declared.known.KnownRecords.{KnownRecords}
use Rattle.import_copies.specs.declared.outcome.Outcome.{Outcome}
use Rattle.import_copies.specs.declared.row_texts.RowTexts.{RowTexts}
use Rattle.import_copies.specs.Streams.{WritesRows, WritesAll, rule_of}

-- a record is taken: it goes where it has to behind the rows and records before it, and then it is one of them
abbrev pub Takes : List (List ℕ) → List Row → List (Option (List ℕ)) → List (Option (List ℕ)) → Option KnownRecords → RowTexts → Outcome → Taken → Type 0
Takes keys rows start now known partition outcome taken = (fate_of outcome ≡ fate_said (rule_of partition) keys rows taken)
    × (keys_in known ≡ keys_with keys taken)
    × WritesRows (rows_with (fate_of outcome) taken rows) start now partition

-- the next record of a file is taken so, or there is none and nothing changes
abbrev pub TakesNext : {R : Type 0} → (R → Option (List ℕ)) → Asked → Records R → Records R → List (List ℕ) → List Row → List (Option (List ℕ)) → List (Option (List ℕ)) → Option KnownRecords → RowTexts → Option Outcome → Type 0
TakesNext remaining asked old new keys rows start now known partition None = (keys_in known ≡ keys) × WritesRows rows start now partition × HasNone remaining old
TakesNext remaining asked old new keys rows start now known partition (Some outcome) = (taken : Taken) × Takes keys rows start now known partition outcome taken × TakesRecord remaining asked old new taken

-- each record of a list, the last one first, went where it has to behind the rows and records before it: those that are
-- written are the rows, in order, and of each kind there are as many as are counted
pub record Sorts (rule : EntryRule) (keys : List (List ℕ)) (rows : List Row) (start now : List (Option (List ℕ))) (known : Option KnownRecords) (partition : RowTexts) (counts : FateCounts) (records : List Taken) : Type 0 where
  pub ruled : rule_of partition ≡ rule
  pub seen : keys_in known ≡ keys_after keys records
  pub counted : counts ≡ counts_of (fates rule keys rows records)
  pub written : WritesRows (rows_after rule keys rows records) start now partition

-- some records went so
abbrev pub CopiesAll : EntryRule → List (List ℕ) → List Row → List (Option (List ℕ)) → List (Option (List ℕ)) → Option KnownRecords → RowTexts → FateCounts → Type 0
CopiesAll rule keys rows start now known partition counts = (records : List Taken) × Sorts rule keys rows start now known partition counts records

-- all records that a file has left went so
abbrev pub CopiesFile : {R : Type 0} → (R → Option (List ℕ)) → Asked → Records R → EntryRule → List (List ℕ) → List Row → List (Option (List ℕ)) → List (Option (List ℕ)) → Option KnownRecords → RowTexts → FateCounts → Type 0
CopiesFile remaining asked old rule keys rows start now known partition counts = (records : List Taken) × Sorts rule keys rows start now known partition counts records × AreOfFile remaining asked old records

-- the same of a file from its beginning on, whose header comes first if it is CSV, and says where the texts of columns
-- stand
abbrev pub CopiesWhole : {R : Type 0} → (R → Option (List ℕ)) → ImportRule → Option (List ℕ) → Records R → EntryRule → List (List ℕ) → List Row → List (Option (List ℕ)) → List (Option (List ℕ)) → Option KnownRecords → RowTexts → FateCounts → Type 0
CopiesWhole remaining asks columns old rule keys rows start now known partition counts = (records : List Taken) × Sorts rule keys rows start now known partition counts records
    × (asked : Asked) × Asks asks old columns asked × ((rest : Rest) → StandsAt remaining old rest → IsPlaced rest asked.fields asked.rule.places.now asked.picks)
    × ((rest more : Rest) → StandsAt remaining old rest → IsBegun rest more → TakesAll asked more records)

-- of some records that went where they had to, those that are written are the rows of a partition from its start on
abbrev pub CopiesRows : EntryRule → List (List ℕ) → List (Option (List ℕ)) → List (Option (List ℕ)) → Option KnownRecords → RowTexts → Type 0
CopiesRows rule keys start now known partition = (records : List Taken) × (keys_in known ≡ keys_after keys records) × WritesRows (rows_after rule keys [] records) start now partition

-- the text of a whole partition, or those of its parts, were written, of the rows of records that went where they had
-- to behind the records before
abbrev pub WritesSorted : EntryRule → Option Dealing → List (List ℕ) → List (Option (List ℕ)) → List (Option (List ℕ)) → Option KnownRecords → Type 0
WritesSorted rule dealing keys start now known = (records : List Taken) × (keys_in known ≡ keys_after keys records) × WritesAll rule dealing (rows_after rule keys [] records) start now
