-- A record is a row of whole numbers.
use Rattle.std.specs.Prelude.{ℕ, ℤ, pos, List, map, slice_index_or}

abbrev pub Record : Type 0
Record = List ℤ

-- the number of a record in column c
abbrev pub at : ℕ → Record → ℤ
at c record_ = slice_index_or record_ c (pos 0)

-- the number in column c of each record
abbrev pub column_of : ℕ → List Record → List ℤ
column_of c records = map (at c) records
