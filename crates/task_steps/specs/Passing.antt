-- What the leg's next barrier does to a task whose inputs have all come to it.
use Rattle.std.specs.Prelude.{◌≡◌, ℕ, slice_set, true}
use Rattle.plan_model.specs.PlanData.{PlanData}
use Rattle.input_state.specs.Inputs.{inputs_from}
use Rattle.input_state.specs.declared.inputs.Shut.{Shut}
use Rattle.input_state.specs.declared.inputs.Shut.TheVariants.{Free}
use Rattle.dataflow_model.specs.AbstractTask.{AbstractTask}
use Rattle.dataflow_model.specs.Steps.{past_barrier}
use Rattle.task_steps.specs.TaskData.{TaskData, Stands}
use Rattle.task_steps.specs.Answers.{GoesOn}

abbrev pub Passes : TaskData → TaskData → Type 0
Passes old new = GoesOn old new × ((p : PlanData) (k : AbstractTask) → Stands p k old → new.state ≡ past_barrier k old.state old.state.inputs.shut)

-- with input i shut so
abbrev pub closed_at : ℕ → Shut → TaskData → TaskData
closed_at i how t = record t { state = record t.state { inputs = inputs_from t.state.inputs.marks (slice_set t.state.inputs.shut i how) } }

-- it found no memory to keep itself: it has failed, and input i is free again
abbrev pub refused_at : ℕ → TaskData → TaskData
refused_at i t = record (closed_at i Free t) { has_failed = true }
