-- Which rows of a batch are kept, and which go where.
use Rattle.std.specs.Prelude.{ℕ, ◌==◌, Bool, List, map}
use Rattle.std.specs.List.{filter, zip}
use Rattle.plain_data.specs.Record.{Record}
use Rattle.columns.specs.Table.{Table}

-- the elements whose places in the mask are true, in order
abbrev pub kept : {X : Type 0} → List Bool → List X → List X
kept mask xs = map (λ p. p.1) (filter (λ p. p.0) (zip mask xs))

abbrev pub kept_rows : List Bool → List Record → List Record
kept_rows mask rows = kept mask rows

-- the rows with target t, in order
abbrev pub rows_with_target : ℕ → List ℕ → List Record → List Record
rows_with_target t targets rows = kept (map (λ target. target == t) targets) rows

-- a table of as many columns with other rows
abbrev pub with_rows : Table → List Record → Table
with_rows table rows = record { width = table.width; rows = rows }

-- what goes to target t
abbrev pub piece : List ℕ → Table → ℕ → Table
piece targets table t = with_rows table (rows_with_target t targets table.rows)
