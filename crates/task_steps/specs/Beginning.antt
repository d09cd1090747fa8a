-- What a task is made of.
use Rattle.std.specs.Prelude.{◌≡◌, ℕ, ℤ, ◌+◌, ◌^◌, ◌<◌, List, length, Option, option_map, false}
use Rattle.std.specs.List.{All}
use Rattle.window_state.specs.State.{StateData}
use Rattle.dataflow_model.specs.declared.role.Role.TheVariants.{Source}
use Rattle.dataflow_model.specs.Opening.{opening}
use Rattle.task_steps.specs.declared.setup.Setup.{Setup}
use Rattle.task_steps.specs.Sending.{IsSplit}
use Rattle.task_steps.specs.TaskData.{TaskData, windows_in, IsTurn, IsWindowing}

-- a setup that fits itself, with as many watermarks as inputs, the offsets of a source's partitions, and the windows of
-- a window's task
pub record CanBegin (s : Setup) (offsets : List ℕ) (marks : List ℤ) (window : Option StateData) : Type 0 where
  pub time : s.time < s.columns
  pub key : s.key < s.columns
  pub filters : All (λ f. f.column < s.columns) s.filters
  pub split : IsSplit s.split s.outputs
  pub turn : IsTurn s.role 0 s.outputs
  pub windowing : IsWindowing s 0 false window
  pub marked : length marks ≡ s.inputs
  pub some : 0 < s.first
  pub numbers : s.first + s.saves < 2 ^ 64
  pub placed : s.role ≡ Source → length offsets ≡ s.inputs

-- a task that has done nothing
abbrev pub begun : Setup → List ℕ → List ℤ → Option StateData → TaskData
begun s offsets marks window = record {
  setup = s;
  window = option_map (λ w. w.window) window;
  state = opening s.inputs offsets marks (windows_in window);
  has_failed = false;
}
