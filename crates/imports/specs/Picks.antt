-- The texts of columns, out of a row of CSV.
use Rattle.std.specs.Prelude.{ℕ, List, [], ◌∷◌, map, unwrap_or}
use Rattle.asked_fields.specs.Joined.{byte_of, joined}
use Rattle.csv.specs.Records.{field_at}
use Rattle.imports.specs.declared.picking.Pick.{Pick}
use Rattle.imports.specs.declared.picking.Pick.TheVariants.{One, Joined}

-- the text of the field at a place, or none
abbrev pub text_at : List (List ℕ) → ℕ → List ℕ
text_at row place = unwrap_or (field_at row place) []

-- the text of a column
abbrev pub pick_text : List (List ℕ) → Pick → List ℕ
pick_text row (One place) = text_at row place
pick_text row (Joined joint places) = joined (byte_of joint) (map (text_at row) places.items)

-- the texts of columns, or the row itself where none are asked for
abbrev pub picked : List Pick → List (List ℕ) → List (List ℕ)
picked [] row = row
picked (pick ∷ picks) row = map (pick_text row) (pick ∷ picks)
