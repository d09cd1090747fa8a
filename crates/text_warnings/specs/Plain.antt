-- How many quotation marks the text of an input has, and how many names it has at least.
use Rattle.std.specs.Prelude.{ℕ, ◌+◌, ◌==◌, List, length}
use Rattle.std.specs.List.{filter, flat_map}
use Rattle.stream_model.specs.declared.entry.Marked.{Marked}

abbrev pub quotes_in : List ℕ → ℕ
quotes_in text = length (filter (λ byte. byte == 34) text)

abbrev pub entries_in : List (List Marked) → List Marked
entries_in partitions = flat_map (λ entries. entries) partitions

abbrev pub all_entries : List (List (List Marked)) → List Marked
all_entries sources = flat_map entries_in sources

-- a name for each source, and one for each entry: `rows` or `watermark`
abbrev pub names_in : List (List (List Marked)) → ℕ
names_in sources = length sources + length (all_entries sources)
