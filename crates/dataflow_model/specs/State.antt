-- What a task keeps from step to step.
use Rattle.std.specs.Prelude.{ℕ, ℤ, Bool, List, length, slice_index_or}
use Rattle.std.specs.FinMap.{FinMap}
use Rattle.plan_model.specs.declared.spec.Row.{Row}
use Rattle.plan_model.specs.Aggregates.{Aggregated}
use Rattle.plan_model.specs.Rows.{pane_cmp}
use Rattle.input_state.specs.Inputs.{InputsData}
use Rattle.dataflow_model.specs.Message.{Message}

-- what stands in the windows that have not fired
abbrev pub Windows : Type 0
Windows = FinMap pane_cmp Aggregated

-- what a task keeps of itself for a savepoint while it goes on
pub record Kept : Type 0 where
  pub offsets : List ℕ
  pub marks : List ℤ
  pub windows : Windows
  -- how many rows the sink had
  pub rows : ℕ

pub record State : Type 0 where
  -- messages to be put, each with its output, the first one first
  pub pending : List (ℕ × Message)
  pub opened : Bool
  -- stopped, closed or ended
  pub over : Bool
  -- of a source: how many entries of each partition were read
  pub offsets : List ℕ
  -- the inputs, or a source's partitions
  pub inputs : InputsData
  -- the output of the next batch, where whole batches go in turn
  pub cursor : ℕ
  -- how many records were taken in the leg
  pub taken : ℕ
  pub windows : Windows
  -- what the sink has collected
  pub rows : List Row
  -- how many barriers of the leg it has aligned on, and what it kept at those after which it went on
  pub next : ℕ
  pub kept : List Kept

abbrev pub kept_of : State → Kept
kept_of s = record { offsets = s.offsets; marks = s.inputs.marks; windows = s.windows; rows = length s.rows }

-- what a task has kept at barrier m of the leg, counted from 0; with no entry there, what it has now
abbrev pub kept_at : ℕ → State → Kept
kept_at m s = slice_index_or s.kept m (kept_of s)
