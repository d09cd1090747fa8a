-- The lines of entries, of which receipts have the digests: compact JSON, and a line feed. The marks that a source
-- makes of them stand in none.
use Rattle.std.specs.Prelude.{ℕ, List, ◌++◌, codes}
use Rattle.std.specs.List.{flat_map}
use Rattle.stream_model.specs.declared.entry.Marked.{Marked}
use Rattle.part_texts.specs.InputTexts.{entry_text}

abbrev pub entry_line : Marked → List ℕ
entry_line m = entry_text m.entry ++ codes "\n"

-- the lines of entries, in order
abbrev pub lines_of : List Marked → List ℕ
lines_of entries = flat_map entry_line entries
