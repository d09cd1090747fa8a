-- What tells records apart.
use Rattle.std.specs.Prelude.{ℕ, List, [], ◌++◌, length, Option, Some, None, option_map}
use Rattle.std.specs.Int.{bytes_low_first}
use Rattle.std.specs.List.{flat_map}
use Rattle.imports.specs.Rows.{column_text}
use Rattle.known_records.specs.declared.known.KnownRecords.{KnownRecords}

-- the text of a field behind its length
abbrev pub field_text : List ℕ → List ℕ
field_text text = bytes_low_first 0 8 (length text) ++ text

-- the texts of the fields of columns, which stand at these places
abbrev pub key_said : List ℕ → List ℕ → List (List ℕ) → List ℕ
key_said columns places fields = flat_map (λ column. field_text (column_text places fields column)) columns

-- the texts of the records before
abbrev pub keys_in : Option KnownRecords → List (List ℕ)
keys_in None = []
keys_in (Some known) = known.table

-- the columns whose fields tell records apart, if any do
abbrev pub columns_in : Option KnownRecords → Option (List ℕ)
columns_in known = option_map (λ records. records.columns.items) known

-- the text that tells a record of these fields from others
abbrev pub key_by : Option (List ℕ) → List ℕ → List (List ℕ) → Option (List ℕ)
key_by columns places fields = option_map (λ some. key_said some places fields) columns

abbrev pub key_in : Option KnownRecords → List ℕ → List (List ℕ) → Option (List ℕ)
key_in known places fields = key_by (columns_in known) places fields
