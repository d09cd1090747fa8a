-- Where a task of a leg begins.
use Rattle.std.specs.Prelude.{◌≡◌, ℕ, ◌<◌, ℤ, List, [], length, replicate, slice_index, slice_index_or, true, false, None}
use Rattle.std.specs.FinMap.{get, empty}
use Rattle.plan_model.specs.declared.spec.Pane.{Pane}
use Rattle.plan_model.specs.PlanData.{PlanData}
use Rattle.plan_model.specs.Rows.{is_due}
use Rattle.input_state.specs.declared.inputs.Shut.TheVariants.{Free}
use Rattle.plain_data.specs.Times.{lowest}
use Rattle.input_state.specs.Inputs.{inputs_from}
use Rattle.dataflow_model.specs.declared.role.Role.{Role}
use Rattle.dataflow_model.specs.declared.role.Role.TheVariants.{Source, Chain, Window, Sink}
use Rattle.dataflow_model.specs.AbstractTask.{AbstractTask}
use Rattle.dataflow_model.specs.State.{Windows, State}

-- a task of n inputs that has done nothing: it was given offsets and watermarks of its partitions, or windows
abbrev pub opening : ℕ → List ℕ → List ℤ → Windows → State
opening n offsets marks windows = record {
  pending = [];
  opened = false;
  over = false;
  offsets = offsets;
  inputs = inputs_from marks (replicate n Free);
  cursor = 0;
  taken = 0;
  windows = windows;
  rows = [];
  next = 0;
  kept = [];
}

-- a source has the watermarks that its partitions have at their offsets
pub record IsSourceOpening (k : AbstractTask) (s : State) : Type 0 where
  pub offsets : List ℕ
  pub marks : List ℤ
  pub is : s ≡ opening k.inputs offsets marks empty
  pub length_offsets : length offsets ≡ k.inputs
  pub length_marks : length marks ≡ k.inputs
  pub marked : (q : ℕ) (d : ℤ) → q < k.inputs → slice_index_or marks q d ≡ k.watermark q (slice_index offsets q)

-- no window is due by the least watermark of all
abbrev pub IsOpening : PlanData → Role → AbstractTask → State → Type 0
IsOpening p Source k s = IsSourceOpening k s
IsOpening p Chain k s = s ≡ opening k.inputs [] (replicate k.inputs lowest) empty
IsOpening p Window k s = (windows : Windows) × (s ≡ opening k.inputs [] (replicate k.inputs lowest) windows) × ((q : Pane) → is_due p.window lowest q.start ≡ true → get windows q ≡ None)
IsOpening p Sink k s = s ≡ opening k.inputs [] (replicate k.inputs lowest) empty

-- a task that has done nothing, whatever offsets, watermarks and windows it was given
abbrev pub IsUntouched : Role → AbstractTask → State → Type 0
IsUntouched Source k s = (offsets : List ℕ) × (marks : List ℤ) × (s ≡ opening k.inputs offsets marks empty) × (length offsets ≡ k.inputs) × (length marks ≡ k.inputs)
IsUntouched Chain k s = s ≡ opening k.inputs [] (replicate k.inputs lowest) empty
IsUntouched Window k s = (windows : Windows) × (s ≡ opening k.inputs [] (replicate k.inputs lowest) windows)
IsUntouched Sink k s = s ≡ opening k.inputs [] (replicate k.inputs lowest) empty
