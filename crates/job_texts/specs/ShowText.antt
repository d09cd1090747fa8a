-- The text of a savepoint: a line for its number, for the key groups, for each partition, for the window, and for each
-- entry; and the text of one key group, which is of its entries alone.
use Rattle.std.specs.Prelude.{ℕ, List, [], ◌∷◌, ◌++◌, codes}
use Rattle.std.specs.List.{flat_map, enumerate_from}
use Rattle.plan_model.specs.declared.spec.Pane.{Pane}
use Rattle.savepoint_codec.specs.declared.savepoint.SavedPartition.{SavedPartition}
use Rattle.savepoint_codec.specs.declared.savepoint.SavedSource.{SavedSource}
use Rattle.savepoint_codec.specs.declared.savepoint.SavedGroup.{SavedGroup}
use Rattle.savepoint_codec.specs.declared.savepoint.Contents.{Contents}
use Rattle.savepoint_codec.specs.EntriesData.{EntryData, EntriesData}
use Rattle.savepoint_index.specs.Answer.{entries_of_group}
use Rattle.job_texts.specs.Text.{spaced}
use Rattle.job_texts.specs.LayoutText.{spaced as count_word}

abbrev pub partition_line : List ℕ → ℕ × SavedPartition → List ℕ
partition_line uid p = codes "source " ++ uid ++ count_word p.0 ++ count_word p.1.offset ++ spaced p.1.watermark ++ 10 ∷ []

-- the lines of a source's partitions, which are numbered from 0
abbrev pub source_lines : SavedSource → List ℕ
source_lines s = flat_map (partition_line s.uid) (enumerate_from 0 s.partitions)

-- where an entry stands, and how many records it has
abbrev pub entry_head : ℕ → Pane → ℕ → List ℕ
entry_head group q count = codes "entry" ++ count_word group ++ spaced q.start ++ spaced q.key ++ count_word count

abbrev pub entry_line : ℕ → EntryData → List ℕ
entry_line group e = entry_head group e.pane e.total.count ++ flat_map spaced e.total.numbers ++ 10 ∷ []

-- the lines of entries of a key group
abbrev pub entry_lines : ℕ → EntriesData → List ℕ
entry_lines group entries = flat_map (entry_line group) entries.entries

abbrev pub group_lines : SavedGroup → List ℕ
group_lines g = entry_lines g.group g.entries

abbrev pub number_line : ℕ → List ℕ
number_line n = codes "number" ++ count_word n ++ 10 ∷ []

abbrev pub max_line : ℕ → List ℕ
max_line n = codes "max" ++ count_word n ++ 10 ∷ []

abbrev pub window_line : List ℕ → List ℕ
window_line uid = codes "window " ++ uid ++ 10 ∷ []

abbrev pub savepoint_text : Contents → List ℕ
savepoint_text s = number_line s.number ++ max_line s.max ++ flat_map source_lines s.sources ++ window_line s.window_uid ++ flat_map group_lines s.groups

-- no line for a key group that has no entries
abbrev pub group_text : ℕ → Contents → List ℕ
group_text group s = entry_lines group (entries_of_group group s)
