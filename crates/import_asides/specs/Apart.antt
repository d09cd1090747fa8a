-- Records that are set aside.
use Rattle.std.specs.Prelude.{ℕ, Bool, not, List, [], get_or, length, take, map, filter, bytes_eq, Option}
use Rattle.std.specs.List.{list_any, range_with_len}
use Rattle.import_columns.specs.declared.column.Column.{Column}
use Rattle.imports.specs.Rows.{column_text}
use Rattle.import_asides.specs.declared.aside.SetAside.{SetAside}
use Rattle.import_asides.specs.Written.{HasRecords}

-- the names of the fields whose texts columns are
abbrev pub field_names : List Column → List (List ℕ)
field_names columns = map (λ column. column.field.now) columns

-- no name before the one at a place is the same
abbrev pub is_first : List (List ℕ) → ℕ → Bool
is_first names place = not (list_any (λ name. bytes_eq name (get_or names place [])) (take place names))

-- the places of names of which none before is the same
abbrev pub first_places : List (List ℕ) → List ℕ
first_places names = filter (is_first names) (range_with_len 0 (length names))

-- the names of the fields that are written, each once
abbrev pub names_apart : List Column → List (List ℕ)
names_apart columns = map (λ place. get_or (field_names columns) place []) (first_places (field_names columns))

-- the texts of these fields in a record, where each column's stands at its place
abbrev pub texts_apart : List Column → List ℕ → List (List ℕ) → List (List ℕ)
texts_apart columns places fields = map (column_text places fields) (first_places (field_names columns))

-- since it had this text it was given the text of records
abbrev pub HasApart : {W : Type 0} → (W → Option (List ℕ)) → Option (List ℕ) → List (List (List ℕ)) → SetAside W → Type 0
HasApart contents start records aside = HasRecords contents start records [] aside.writer
