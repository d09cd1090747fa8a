-- A batch as contracts see it: a width, and a list of records, each with that many numbers.
use Rattle.std.specs.Prelude.{◌≡◌, ◌≤◌, ◌*◌, ℕ, ℤ, pos, List, length, map, take, drop, slice_index_or, Vec}
use Rattle.std.specs.declared.alloc.Global.{Global}
use Rattle.std.specs.List.{flat_map, range_with_len}
use Rattle.plain_data.specs.declared.limits.TheConstants.{MOST_COLUMNS}
use Rattle.plain_data.specs.Record.{Record, column_of}
use Rattle.columns.specs.declared.TheConstants.{MOST_ROWS}

-- how many columns there are, which no list of rows tells where it is empty, and the rows in order
pub record Table : Type 0 where
  pub width : ℕ
  pub rows : List Record

-- row i of columns
abbrev pub row_at : List (List ℤ) → ℕ → Record
row_at columns i = map (λ column. slice_index_or column i (pos 0)) columns

-- the first n rows of columns
abbrev pub rows_of : List (List ℤ) → ℕ → List Record
rows_of columns n = map (row_at columns) (range_with_len 0 n)

-- the columns of so many numbers each that stand one after the other
abbrev pub columns_in : List ℤ → ℕ → ℕ → List (List ℤ)
columns_in numbers width count = map (λ c. take count (drop (c * count) numbers)) (range_with_len 0 width)

-- the numbers of rows of this width, column after column
abbrev pub by_columns : ℕ → List Record → List ℤ
by_columns width rows = flat_map (λ c. column_of c rows) (range_with_len 0 width)

-- the rows that vectors hold
abbrev pub rows_in : List (Vec ℤ Global) → List Record
rows_in rows = map (λ row. row.items) rows

-- how many columns a batch may have: 1 to 16
pub record IsWidth (n : ℕ) : Type 0 where
  pub some : 1 ≤ n
  pub narrow : n ≤ MOST_COLUMNS

-- the numbers of so many columns, which have one for each row, at most 4,096
pub record AreColumns (numbers : List ℤ) (width count : ℕ) : Type 0 where
  pub sized : IsWidth width
  pub whole : length numbers ≡ width * count
  pub few : count ≤ MOST_ROWS
