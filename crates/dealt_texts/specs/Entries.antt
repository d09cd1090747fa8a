-- The entries that the rows of a partition come to, and their text. Rows and entries are listed from the last one back.
use Rattle.std.specs.Prelude.{◌≡◌, ℕ, ◌<◌, List, [], ◌∷◌, ◌++◌, length, map, codes, Some, None}
use Rattle.std.specs.Fmt.{signed_decimal}
use Rattle.std.specs.List.{join_with_byte}
use Rattle.plain_data.specs.Record.{Record}
use Rattle.plan_model.specs.PlanData.{PlanData}
use Rattle.stream_model.specs.declared.entry.Entry.{Entry}
use Rattle.stream_model.specs.declared.entry.Entry.TheVariants.{Rows, Watermark}
use Rattle.import_entries.specs.declared.place.Place.{Place}
use Rattle.import_entries.specs.declared.place.Place.TheVariants.{Joins, Begins}
use Rattle.import_entries.specs.declared.rule.EntryRule.{EntryRule}
use Rattle.import_entries.specs.Entries.{place_said}
use Rattle.input_parts.specs.Parts.{is_in_part, entries_kept}
use Rattle.entry_texts.specs.EntryTexts.{row_text, watermark_label}
use Rattle.entry_texts.specs.Partitions.{Row, times_of}
use Rattle.dealt_texts.specs.Parts.{ended}
use Rattle.dealt_texts.specs.Texts.{part_of_rows}
use Rattle.dealt_texts.specs.declared.dealing.Dealing.{Dealing}

abbrev pub record_of : Row → Record
record_of row = row.first ∷ row.others

-- an entry of one record
abbrev pub entry_of : Record → Entry
entry_of r = Rows (record { width = length r; rows = r ∷ [] })

-- entries with one more record, at its place
abbrev pub with_record : Place → Record → List Entry → List Entry
with_record Joins r [] = entry_of r ∷ []
with_record Joins r (Watermark mark ∷ before) = entry_of r ∷ Watermark mark ∷ before
with_record Joins r (Rows batch ∷ before) = Rows (record { width = batch.width; rows = batch.rows ++ r ∷ [] }) ∷ before
with_record (Begins None) r before = entry_of r ∷ before
with_record (Begins (Some mark)) r before = entry_of r ∷ Watermark mark ∷ before

-- the entries of rows
abbrev pub entries_of : EntryRule → List Row → List Entry
entries_of rule [] = []
entries_of rule (row ∷ before) = with_record (place_said rule.most_rows rule.bound (times_of before)) (record_of row) (entries_of rule before)

abbrev pub record_text : Record → List ℕ
record_text [] = codes "[]"
record_text (first ∷ others) = row_text first others

abbrev pub entry_text : Entry → List ℕ
entry_text (Rows batch) = codes "{\"rows\":[" ++ (join_with_byte 44 (map record_text batch.rows) ++ codes "]}")
entry_text (Watermark mark) = watermark_label ++ (signed_decimal mark ++ codes "}")

-- entries with commas between, the last one listed first
abbrev pub entries_text : List Entry → List ℕ
entries_text [] = []
entries_text (entry ∷ []) = entry_text entry
entries_text (entry ∷ next ∷ before) = entries_text (next ∷ before) ++ (codes "," ++ entry_text entry)

abbrev pub list_text : List Entry → List ℕ
list_text entries = codes "[" ++ (entries_text entries ++ codes "]")

-- the text of a part is that of the entries of the whole with just the part's records: those without any are left out,
-- and no watermark is
abbrev pub PartsHaveTheirEntries : Type 0
PartsHaveTheirEntries = (plan : PlanData) (rule : EntryRule) (dealing : Dealing) (rows : List Row) (i : ℕ) → dealing.max ≡ plan.max → dealing.key ≡ plan.window.key → i < dealing.parts
    → ended (part_of_rows rule dealing i rows) ≡ list_text (entries_kept (is_in_part plan dealing.parts i) (entries_of rule rows))
