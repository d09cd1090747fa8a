-- What a task keeps of itself for a savepoint while it goes on, as the code has it.
use Rattle.std.specs.Prelude.{◌≡◌, List, [], length, map, Option, Some, None}
use Rattle.std.specs.FinMap.{entries, from_entries}
use Rattle.std.specs.List.{All}
use Rattle.plan_model.specs.declared.spec.WindowSpec.{WindowSpec}
use Rattle.aggregates.specs.declared.kind.Kind.{Kind}
use Rattle.aggregates.specs.Kinds.{kind_of}
use Rattle.dataflow_model.specs.declared.role.Role.TheVariants.{Source}
use Rattle.dataflow_model.specs.State as model
use Rattle.dataflow_model.specs.State.{Windows}
use Rattle.window_state.specs.declared.parts.Part.{Part}
use Rattle.window_state.specs.Parts.{entries_of, IsPartOf}
use Rattle.task_steps.specs.declared.kept.Kept.{Kept}
use Rattle.task_steps.specs.declared.setup.Setup.{Setup}

-- the windows in whose panes these parts stand
abbrev pub windows_of : List Part → Windows
windows_of parts = from_entries (entries_of parts)

-- what a task has kept, as the model has it
abbrev pub kept_value : Kept → model.Kept
kept_value k = record { offsets = k.offsets.items; marks = k.marks.items; windows = windows_of k.parts; rows = k.rows }

-- parts of the windows of a task that has this operator; without one it has none
abbrev pub ArePartsOf : Option WindowSpec → List Part → Type 0
ArePartsOf None parts = parts ≡ []
ArePartsOf (Some w) parts = All (IsPartOf w) parts

-- the kind of each number of an operator's parts
abbrev pub kinds_in : Option WindowSpec → List Kind
kinds_in None = []
kinds_in (Some w) = map kind_of w.aggregates

-- what a task that was told so and has this operator keeps: a watermark for each input, of a source an offset for each
-- partition, and parts of the windows, each pane once and in order
pub record IsKept (s : Setup) (window : Option WindowSpec) (k : Kept) : Type 0 where
  pub offsets : s.role ≡ Source → length k.offsets.items ≡ s.inputs
  pub marks : length k.marks.items ≡ s.inputs
  pub parts : ArePartsOf window k.parts
  pub ordered : entries_of k.parts ≡ entries (windows_of k.parts)
