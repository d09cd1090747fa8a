-- What a step makes pending, and for which outputs.
use Rattle.std.specs.Prelude.{ℕ, zero, suc, ℤ, ◌==◌, nat_lt, List, [], ◌∷◌, ◌++◌, map, filter, Option, Some, None, if◌then◌else◌}
use Rattle.plain_data.specs.Record.{Record, at}
use Rattle.columns.specs.Table.{Table}
use Rattle.plan_model.specs.declared.spec.Row.{Row}
use Rattle.dataflow_model.specs.Message.{Message, Rows, Fired, Watermark, Barrier, End}
use Rattle.dataflow_model.specs.AbstractTask.{Routing, Whole, Split, AbstractTask}

-- for each output j below n, ascending, the messages f j
abbrev pub spread : ℕ → (ℕ → List Message) → List (ℕ × Message)
spread zero f = []
spread (suc n) f = spread n f ++ map (λ m. (n, m)) (f n)

-- one message of records, unless there are none
abbrev pub batch : ℕ → List Record → List Message
batch width [] = []
batch width (r ∷ rs) = Rows (record { width = width; rows = r ∷ rs }) ∷ []

-- the records that go to output j
abbrev pub part : ℕ → Routing → ℕ → List Record → ℕ → List Record
part key Whole cursor rs j = if j == cursor then rs else []
part key (Split owner) cursor rs j = filter (λ r. owner (at key r) == j) rs

-- the next output after a batch
abbrev pub next_cursor : ℕ → ℕ → List Record → ℕ
next_cursor n c [] = c
next_cursor n c (r ∷ rs) = if nat_lt (suc c) n then suc c else 0

-- the records that the filters of a task keep, by its edge
abbrev pub route : ℕ → AbstractTask → ℕ → Table → List (ℕ × Message)
route key k cursor t = spread k.outputs (λ j. batch t.width (part key k.routing cursor (filter k.keeps t.rows) j))

-- what a source sends of an entry
abbrev pub route_of : ℕ → AbstractTask → ℕ → Message → List (ℕ × Message)
route_of key k cursor (Rows t) = route key k cursor t
route_of key k cursor (Fired rows) = []
route_of key k cursor (Watermark t) = []
route_of key k cursor (Barrier n) = []
route_of key k cursor End = []

-- a message on every output
abbrev pub to_all : ℕ → Message → List (ℕ × Message)
to_all n m = spread n (λ j. m ∷ [])

-- the new least watermark on every output, where it rose
abbrev pub announce : ℕ → Option ℤ → List (ℕ × Message)
announce n None = []
announce n (Some t) = to_all n (Watermark t)

-- fired rows on a window task's one output, unless there are none
abbrev pub fired : List Row → List (ℕ × Message)
fired [] = []
fired (r ∷ rows) = (0, Fired (r ∷ rows)) ∷ []
