-- What a JSON value says as a plan. None: a member is missing, unknown or of another form.
use Rattle.std.specs.Prelude.{ℕ, ℤ, pos, List, [], ◌∷◌, Option, Some, None, codes}
use Rattle.std.specs.Option.{option_map_or}
use Rattle.serde_json.specs.Data.{Data}
use Rattle.serde_json.specs.Find.{get}
use Rattle.json_parts.specs.Parts.{◌>>=◌, whole_at, whole_or, text_at, each_at, each_or_empty, object_of, named}
use Rattle.lane_kernels.specs.declared.Cmp.{Cmp}
use Rattle.lane_kernels.specs.declared.Cmp.TheVariants.{Eq, Ne, Lt, Le, Gt, Ge}
use Rattle.logical_plan.specs.declared.text.SourceText.{SourceText}
use Rattle.logical_plan.specs.declared.text.FilterText.{FilterText}
use Rattle.logical_plan.specs.declared.text.AggregateText.{AggregateText}
use Rattle.logical_plan.specs.declared.text.AggregateText.TheVariants.{Count, Sum, Least, Greatest}
use Rattle.logical_plan.specs.declared.text.HavingText.{HavingText}
use Rattle.logical_plan.specs.declared.text.WindowText.{WindowText}
use Rattle.logical_plan.specs.declared.text.PlanText.{PlanText}

abbrev pub cmp_named : List ℕ → Option Cmp
cmp_named name =
    named name (codes "eq") (Some Eq) (named name (codes "ne") (Some Ne) (named name (codes "lt") (Some Lt) (named name (codes "le") (Some Le) (named name (codes "gt") (Some Gt) (named name (codes "ge") (Some Ge) None)))))

unfoldable pub cmp_text : Data → Option Cmp
cmp_text d = do
  name ← text_at (codes "op") d
  cmp_named name

-- the bound by which the watermarks of a source are behind
unfoldable pub watermarks_text : Data → Option (Option ℤ)
watermarks_text d = object_of (codes "bound" ∷ []) d do
  bound ← whole_at (codes "bound") d
  Some (Some bound)

-- without watermarks there is none
unfoldable pub bound_at : Data → Option (Option ℤ)
bound_at d = option_map_or watermarks_text (get (codes "watermarks") d) (Some None)

unfoldable pub source_text : Data → Option SourceText
source_text d = object_of (codes "uid" ∷ codes "partitions" ∷ codes "watermarks" ∷ []) d do
  uid ← text_at (codes "uid") d
  partitions ← whole_at (codes "partitions") d
  bound ← bound_at d
  Some (record { uid = uid; partitions = partitions; bound = bound })

unfoldable pub filter_text : Data → Option FilterText
filter_text d = object_of (codes "uid" ∷ codes "column" ∷ codes "op" ∷ codes "value" ∷ []) d do
  uid ← text_at (codes "uid") d
  column ← whole_at (codes "column") d
  cmp ← cmp_text d
  value ← whole_at (codes "value") d
  Some (record { uid = uid; column = column; cmp = cmp; value = value })

unfoldable pub count_text : Data → Option AggregateText
count_text d = object_of (codes "fn" ∷ []) d (Some Count)

-- the column of an aggregate that has one
unfoldable pub column_text : Data → Option ℤ
column_text d = object_of (codes "fn" ∷ codes "column" ∷ []) d (whole_at (codes "column") d)

abbrev pub aggregate_named : List ℕ → Data → Option AggregateText
aggregate_named name d =
    named name (codes "count") (count_text d) (named name (codes "sum") (column_text d >>= λ c. Some (Sum c)) (named name (codes "least") (column_text d >>= λ c. Some (Least c)) (named name (codes "greatest") (column_text d >>= λ c. Some (Greatest c)) None)))

unfoldable pub aggregate_text : Data → Option AggregateText
aggregate_text d = do
  name ← text_at (codes "fn") d
  aggregate_named name d

unfoldable pub having_text : Data → Option HavingText
having_text d = object_of (codes "aggregate" ∷ codes "op" ∷ codes "value" ∷ []) d do
  aggregate ← whole_at (codes "aggregate") d
  cmp ← cmp_text d
  value ← whole_at (codes "value") d
  Some (record { aggregate = aggregate; cmp = cmp; value = value })

-- without a slide it is the size, and without an offset it is 0
unfoldable pub window_text : Data → Option WindowText
window_text d = object_of (codes "uid" ∷ codes "size" ∷ codes "slide" ∷ codes "offset" ∷ codes "aggregates" ∷ codes "having" ∷ []) d do
  uid ← text_at (codes "uid") d
  size ← whole_at (codes "size") d
  slide ← whole_or (codes "slide") size d
  offset ← whole_or (codes "offset") (pos 0) d
  aggregates ← each_at aggregate_text (codes "aggregates") d
  having ← each_or_empty having_text (codes "having") d
  Some (record { uid = uid; size = size; slide = slide; offset = offset; aggregates = aggregates; having = having })

unfoldable pub window_at : Data → Option WindowText
window_at d = do
  w ← get (codes "window") d
  window_text w

unfoldable pub plan_text : Data → Option PlanText
plan_text d = object_of (codes "columns" ∷ codes "maxParallelism" ∷ codes "time" ∷ codes "key" ∷ codes "sources" ∷ codes "filters" ∷ codes "window" ∷ []) d do
  columns ← whole_at (codes "columns") d
  max ← whole_at (codes "maxParallelism") d
  time ← whole_at (codes "time") d
  key ← whole_at (codes "key") d
  sources ← each_at source_text (codes "sources") d
  filters ← each_or_empty filter_text (codes "filters") d
  window ← window_at d
  Some (record { columns = columns; max = max; time = time; key = key; sources = sources; filters = filters; window = window })
