-- Where each record goes, by those before it. Records are listed from the last one back.
use Rattle.std.specs.Prelude.{ℕ, List, [], ◌∷◌, ◌++◌, Bool, false, bytes_eq, Option, Some, None, if◌then◌else◌}
use Rattle.std.specs.List.{list_any}
use Rattle.import_entries.specs.declared.place.PlaceFault.{PlaceFault}
use Rattle.import_entries.specs.declared.place.PlaceFault.TheVariants as place
use Rattle.import_entries.specs.declared.rule.EntryRule.{EntryRule}
use Rattle.import_entries.specs.Entries.{place_fault}
use Rattle.entry_texts.specs.Partitions.{Row, times_of}
use Rattle.import_fates.specs.declared.fate.Fate.{Fate}
use Rattle.import_fates.specs.declared.fate.Fate.TheVariants.{Written, Late, Twice, Bad}

-- what a record is by itself: it gives no row; or it gives one, and may have a text that tells it from others
pub data Taken : Type 0 where
  faulty : Taken
  good : Option (List ℕ) → Row → Taken

-- the texts of records that were before, each once
abbrev pub is_known : List (List ℕ) → Option (List ℕ) → Bool
is_known keys None = false
is_known keys (Some key) = list_any (bytes_eq key) keys

-- where a row goes by its time
abbrev pub fate_by_place : Option PlaceFault → Fate
fate_by_place None = Written
fate_by_place (Some place.Range) = Bad
fate_by_place (Some (place.Late time mark)) = Late

-- where a record goes behind such texts and such rows of the input: bad before twice, and twice before late
abbrev pub fate_said : EntryRule → List (List ℕ) → List Row → Taken → Fate
fate_said rule keys rows faulty = Bad
fate_said rule keys rows (good key row) = if is_known keys key then Twice else fate_by_place (place_fault rule.most_rows rule.bound (times_of rows) row.time)

-- the texts with one more, which may be there already
abbrev pub keys_seen : List (List ℕ) → Option (List ℕ) → List (List ℕ)
keys_seen keys None = keys
keys_seen keys (Some key) = if list_any (bytes_eq key) keys then keys else keys ++ key ∷ []

-- the texts with that of one more record
abbrev pub keys_with : List (List ℕ) → Taken → List (List ℕ)
keys_with keys faulty = keys
keys_with keys (good key row) = keys_seen keys key

-- the rows with one more, if it is written
abbrev pub rows_put : Fate → Row → List Row → List Row
rows_put Written row rows = row ∷ rows
rows_put Late row rows = rows
rows_put Twice row rows = rows
rows_put Bad row rows = rows

-- the rows with that of one more record, if it is written
abbrev pub rows_with : Fate → Taken → List Row → List Row
rows_with goes faulty rows = rows
rows_with goes (good key row) rows = rows_put goes row rows

-- the texts behind records
abbrev pub keys_after : List (List ℕ) → List Taken → List (List ℕ)
keys_after keys [] = keys
keys_after keys (taken ∷ before) = keys_with (keys_after keys before) taken

-- the rows of the input behind records: those of the ones that are written, in order
abbrev pub rows_after : EntryRule → List (List ℕ) → List Row → List Taken → List Row
rows_after rule keys rows [] = rows
rows_after rule keys rows (taken ∷ before) = rows_with (fate_said rule (keys_after keys before) (rows_after rule keys rows before) taken) taken (rows_after rule keys rows before)

-- where each record went
abbrev pub fates : EntryRule → List (List ℕ) → List Row → List Taken → List Fate
fates rule keys rows [] = []
fates rule keys rows (taken ∷ before) = fate_said rule (keys_after keys before) (rows_after rule keys rows before) taken ∷ fates rule keys rows before
