-- The text of a partition's entries, row by row.
use Rattle.std.specs.Prelude.{ℕ, ℤ, Bool, List, [], ◌∷◌, ◌++◌, codes, Option, Some, None, if◌then◌else◌}
use Rattle.std.specs.List.{flat_map}
use Rattle.std.specs.Fmt.{signed_decimal}
use Rattle.import_entries.specs.declared.place.Place.{Place}
use Rattle.import_entries.specs.declared.place.Place.TheVariants.{Joins, Begins}

abbrev pub comma_number : ℤ → List ℕ
comma_number z = 44 ∷ signed_decimal z

-- a list of numbers
abbrev pub row_text : ℤ → List ℤ → List ℕ
row_text first others = 91 ∷ (signed_decimal first ++ (flat_map comma_number others ++ 93 ∷ []))

unfoldable pub watermark_label : List ℕ
watermark_label = codes "{\"watermark\":"

-- a watermark, and a comma
abbrev pub watermark_text : ℤ → List ℕ
watermark_text mark = watermark_label ++ (signed_decimal mark ++ codes "},")

abbrev pub mark_text : Option ℤ → List ℕ
mark_text None = []
mark_text (Some mark) = watermark_text mark

-- what stands before the first row of an entry: the end of the entry before, or the list's bracket; a watermark; and
-- the entry's name
abbrev pub begin_text : Bool → Option ℤ → List ℕ
begin_text is_first mark = (if is_first then 91 ∷ [] else codes "]},") ++ (mark_text mark ++ codes "{\"rows\":[")

-- what stands before a row at its place
abbrev pub lead_text : Bool → Place → List ℕ
lead_text is_first Joins = 44 ∷ []
lead_text is_first (Begins mark) = begin_text is_first mark

-- the brackets that are open, or an empty list
abbrev pub end_text : Bool → List ℕ
end_text is_empty = if is_empty then codes "[]" else codes "]}]"
