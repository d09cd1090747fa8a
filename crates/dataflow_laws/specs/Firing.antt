-- When windows fire: once, when they are due, and with all their records.
use Rattle.std.specs.Prelude.{◌≡◌, ℕ, ◌<◌, ◌≤◌, ℤ, ◌==◌, List, [], ◌∷◌, ◌++◌, filter, option_to_list, if◌then◌else◌}
use Rattle.plan_model.specs.declared.spec.Pane.{Pane}
use Rattle.plan_model.specs.declared.spec.Row.{Row}
use Rattle.plan_model.specs.PlanData.{PlanData}
use Rattle.plan_model.specs.Rows.{row_is_at}
use Rattle.dataflow_model.specs.declared.role.Role.TheVariants.{Source}
use Rattle.dataflow_model.specs.declared.message.Message.{Message}
use Rattle.dataflow_model.specs.declared.message.Message.TheVariants.{Rows, Fired, Watermark, Barrier, End}
use Rattle.dataflow_model.specs.AbstractLayout.{AbstractLayout, IsLayout}
use Rattle.dataflow_model.specs.State.{State}
use Rattle.dataflow_model.specs.OneLeg.{IsOneLeg}
use Rattle.dataflow_model.specs.Runs.{given}
use Rattle.dataflow_model.specs.Cuts.{AreOrderlySources, cut_of, aggregate_until, row_between}
use Rattle.dataflow_model.specs.Start.{IsStart}
use Rattle.dataflow_model.specs.History.{History}
use Rattle.dataflow_laws.specs.Edges.{task_watermark}

-- the fired rows of a message
abbrev pub rows_of : Message → List Row
rows_of (Rows t) = []
rows_of (Fired rows) = rows
rows_of (Watermark t) = []
rows_of (Barrier n) = []
rows_of End = []

-- the fired rows of a log, which has its newest message first, the oldest row first
abbrev pub rows_given : List Message → List Row
rows_given [] = []
rows_given (m ∷ log) = rows_given log ++ rows_of m

-- a cut is none before what was read, and within the partitions
abbrev pub IsNotBefore : AbstractLayout → (ℕ → State) → (ℕ → ℕ → ℕ) → Type 0
IsNotBefore l states cut = (t q : ℕ) → t < l.before → (l.task t).role ≡ Source → q < (l.task t).inputs → (cut_of states t q ≤ cut t q) × (cut t q ≤ (l.task t).size q)

-- at every moment of a leg that began at watermark w, a window task has given of each pane whose key it owns: nothing
-- before its own watermark has come to the window's end, and from then on just the row of all its records, once: those
-- that were read so far, and as well those up to any later cut, since none is to come. Of a pane that another task
-- owns, or that was due at the start, it gives nothing
abbrev pub WindowsFireOnce : Type 0
WindowsFireOnce = (p : PlanData) (l : AbstractLayout) (start : ℕ → State) (w : ℤ) → IsLayout l → AreOrderlySources p l → IsOneLeg l start → IsStart p l start w
    → (h : History p l start) (cut : ℕ → ℕ → ℕ) → IsNotBefore l h.end cut → (u : ℕ) → l.before ≤ u → u < l.sink → (q : Pane)
    → filter (row_is_at q) (rows_given (given 0 (h.steps u) (h.end u))) ≡ (if l.owner q.key == u then option_to_list (row_between p w (task_watermark (h.end u)) q (aggregate_until p l cut q)) else [])
