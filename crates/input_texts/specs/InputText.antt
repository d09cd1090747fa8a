-- What a JSON value says as an input. None: a part is missing, unknown or of another form.
use Rattle.std.specs.Prelude.{ℕ, List, [], ◌∷◌, Option, Some, None, codes, if◌then◌else◌}
use Rattle.serde_json.specs.Data.{Data}
use Rattle.serde_json.specs.Find.{get}
use Rattle.json_parts.specs.Parts.{◌>>=◌, whole, each_at, list_text, cell_text, has_only}
use Rattle.json_parts.specs.Members.{members_text}
pub use Rattle.input_texts.specs.declared.text.EntryText.{EntryText}
pub use Rattle.input_texts.specs.declared.text.EntryText.TheVariants.{Rows as rows, Watermark as watermark}

-- the name of each member of the object, and its partitions
abbrev pub InputText : Type 0
InputText = List (List ℕ × List (List EntryText))

unfoldable pub rows_text : Data → Option EntryText
rows_text d = do
  found ← each_at (list_text cell_text) (codes "rows") d
  Some (rows found)

unfoldable pub watermark_text : Data → Option EntryText
watermark_text d = do
  t ← get (codes "watermark") d
  Some (watermark (whole t))

-- an object with one member, which is rows or a watermark
unfoldable pub entry_text : Data → Option EntryText
entry_text d = if has_only (codes "rows" ∷ []) d then rows_text d else (if has_only (codes "watermark" ∷ []) d then watermark_text d else None)

-- an object in which each member is a list of partitions, and a partition a list of entries
unfoldable pub input_text : Data → Option InputText
input_text d = members_text (list_text (list_text entry_text)) d
