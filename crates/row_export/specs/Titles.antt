-- What the numbers of a row are called.
use Rattle.std.specs.Prelude.{ℕ, List, [], ◌∷◌, ◌++◌, map, slice_get, Option, Some, None, codes}
use Rattle.import_columns.specs.declared.word.ColumnWord.{ColumnWord}
use Rattle.plan_model.specs.declared.spec.Aggregate.{Aggregate}
use Rattle.plan_model.specs.declared.spec.Aggregate.TheVariants.{Count, Sum, Least, Greatest}
use Rattle.plan_model.specs.declared.spec.WindowSpec.{WindowSpec}

-- the name of the field of a column, if there is one
abbrev pub field_there : Option ColumnWord → List ℕ
field_there None = []
field_there (Some column) = column.field.now

abbrev pub field_at : List ColumnWord → ℕ → List ℕ
field_at columns place = field_there (slice_get columns place)

-- an aggregate is called by its function and its column's field
abbrev pub title_of : List ColumnWord → Aggregate → List ℕ
title_of columns Count = codes "count"
title_of columns (Sum column) = codes "sum_" ++ field_at columns column
title_of columns (Least column) = codes "least_" ++ field_at columns column
title_of columns (Greatest column) = codes "greatest_" ++ field_at columns column

-- start, end, the field of the key, and each aggregate
abbrev pub titles_shown : WindowSpec → List ColumnWord → List (List ℕ)
titles_shown window columns = codes "start" ∷ codes "end" ∷ field_at columns window.key ∷ map (title_of columns) window.aggregates
