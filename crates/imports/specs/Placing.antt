-- Where the texts of fields stand in the rows of a file with a header.
use Rattle.std.specs.Prelude.{◌≡◌, ◌⊎◌, ℕ, Bool, true, false, List, [], ◌∷◌, filter, length, map, bytes_eq, Some, Result, Ok, Err}
use Rattle.std.specs.List.{enumerate_from, range_with_len}
use Rattle.asked_fields.specs.Asked.{IsAsked, part_names}
use Rattle.asked_fields.specs.Joined.{byte_of, joined}
use Rattle.asked_fields.specs.declared.asked.AskedField.{AskedField}
use Rattle.asked_fields.specs.declared.joint.Joint.{Joint}
use Rattle.import_columns.specs.declared.column.Column.{Column}
use Rattle.imports.specs.Picks.{picked, text_at}
use Rattle.imports.specs.Reading.{Rest, Csv, Lines, Fields, next_of}
use Rattle.imports.specs.Rows.{column_text}
use Rattle.imports.specs.declared.fault.RowFault.{RowFault}
use Rattle.imports.specs.declared.fault.RowFault.TheVariants.{FieldTwice, Memory, NoField}
use Rattle.imports.specs.declared.picking.Pick.{Pick}
use Rattle.imports.specs.declared.picking.Pick.TheVariants.{One, Joined}
use Rattle.imports.specs.declared.placing.FieldPlace.{FieldPlace}
use Rattle.imports.specs.declared.placing.FieldPlace.TheVariants.{Nowhere, At, Twice}
use Rattle.imports.specs.declared.placing.Places.{Places}

-- the places of a header at which a name stands
abbrev pub places_of : List (List ℕ) → List ℕ → List ℕ
places_of header name = filter (λ place. bytes_eq (text_at header place) name) (range_with_len 0 (length header))

-- a name stands nowhere, at one place alone, or more than once
abbrev pub place_from : List ℕ → FieldPlace
place_from [] = Nowhere
place_from (place ∷ []) = At place
place_from (place ∷ other ∷ more) = Twice

-- and so with one more place, if it stands there
abbrev pub place_with : FieldPlace → ℕ → Bool → FieldPlace
place_with found place false = found
place_with Nowhere place true = At place
place_with (At first) place true = Twice
place_with Twice place true = Twice

-- the place of a name that stands once, or why the field of a column has none
abbrev pub once_at : ℕ → List ℕ → Result ℕ RowFault
once_at column [] = Err (NoField column)
once_at column (place ∷ []) = Ok place
once_at column (place ∷ other ∷ more) = Err (FieldTwice column)

abbrev pub ok_with : {X : Type 0} → X → Result (List X) RowFault → Result (List X) RowFault
ok_with x (Ok xs) = Ok (x ∷ xs)
ok_with x (Err fault) = Err fault

-- all that is right, or the first fault
abbrev pub all_ok : {X : Type 0} → List (Result X RowFault) → Result (List X) RowFault
all_ok [] = Ok []
all_ok (Ok x ∷ more) = ok_with x (all_ok more)
all_ok (Err fault ∷ more) = Err fault

-- where the text of a field stands in a row: in one field, or in several whose texts are put together
pub data Stand : Type 0 where
  Alone : ℕ → Stand
  Together : Joint → List ℕ → Stand

abbrev pub stand_in : Pick → Stand
stand_in (One place) = Alone place
stand_in (Joined joint places) = Together joint places.items

abbrev pub together : Joint → Result (List ℕ) RowFault → Result Stand RowFault
together joint (Ok places) = Ok (Together joint places)
together joint (Err fault) = Err fault

-- the places of the names of a field's parts
abbrev pub parts_at : List (List ℕ) → ℕ → AskedField → Result (List ℕ) RowFault
parts_at header column asked = all_ok (map (λ name. once_at column (places_of header name)) (part_names asked))

-- a field whose name stands nowhere stands in the fields of its parts, if it has any
abbrev pub stands_apart : ℕ → Joint → List (List ℕ) → Result (List ℕ) RowFault → Result Stand RowFault
stands_apart column joint [] places = Err (NoField column)
stands_apart column joint (name ∷ names) places = together joint places

-- a field stands in that of its name, where there is just one
abbrev pub stand_from : ℕ → List ℕ → Result Stand RowFault → Result Stand RowFault
stand_from column [] apart = apart
stand_from column (place ∷ []) apart = Ok (Alone place)
stand_from column (place ∷ other ∷ more) apart = Err (FieldTwice column)

-- where the field of a column stands in rows with a header
abbrev pub stand_of : List (List ℕ) → ℕ → AskedField → Result Stand RowFault
stand_of header column asked = stand_from column (places_of header asked.name.now) (stands_apart column asked.joint (part_names asked) (parts_at header column asked))

-- where the fields of all columns do
abbrev pub stands_of : List (List ℕ) → List AskedField → Result (List Stand) RowFault
stands_of header fields = all_ok (map (λ numbered. stand_of header numbered.0 numbered.1) (enumerate_from 0 fields))

-- a function answers what is said, or that there was no memory
abbrev pub Answers : {X Y : Type 0} → (X → Y) → Result Y RowFault → Result X RowFault → Type 0
Answers view said (Ok x) = said ≡ Ok (view x)
Answers view said (Err fault) = (fault ≡ Memory) ⊎ (said ≡ Err fault)

-- the text of a field in a row
abbrev pub stand_text : List (List ℕ) → Stand → List ℕ
stand_text row (Alone place) = text_at row place
stand_text row (Together joint places) = joined (byte_of joint) (map (text_at row) places)

-- the texts of so many columns, as they are found in a row
abbrev pub texts_by : List ℕ → List Pick → List (List ℕ) → ℕ → List (List ℕ)
texts_by places picks row count = map (column_text places (picked picks row)) (range_with_len 0 count)

-- in each row the text of each column is found where it stands
abbrev pub FindsTexts : Result (List Stand) RowFault → List ℕ → List Pick → Type 0
FindsTexts said places picks = (stands : List Stand) × (said ≡ Ok stands) × ((row : List (List ℕ)) → texts_by places picks row (length stands) ≡ map (stand_text row) stands)

-- so it is with what a function answers; or one stands nowhere, or there was no memory
abbrev pub PlacesFields : Result (List Stand) RowFault → Result Places RowFault → Type 0
PlacesFields said (Ok places) = FindsTexts said places.places.items places.picks.items
PlacesFields said (Err fault) = (fault ≡ Memory) ⊎ (said ≡ Err fault)

-- so it is in the records of a file behind its header; those of NDJSON have the texts in turn
abbrev pub IsPlaced : Rest → List AskedField → List ℕ → List Pick → Type 0
IsPlaced (Csv separator width state text) fields places picks = (header : List (List ℕ)) (more : Rest) → next_of (Csv separator width state text) ≡ Some (Fields header, more) → FindsTexts (stands_of header fields) places picks
IsPlaced (Lines lines) fields places picks = (row : List (List ℕ)) → texts_by places picks row (length fields) ≡ map (text_at row) (range_with_len 0 (length fields))

-- these are the fields that columns ask for
abbrev pub AreFields : List Column → List AskedField → Type 0
AreFields [] [] = Unit {0}
AreFields [] (field ∷ fields) = ⊥
AreFields (column ∷ columns) [] = ⊥
AreFields (column ∷ columns) (field ∷ fields) = IsAsked column.field.now column.joint field × AreFields columns fields
