-- What a worker did: a list of its task's local steps, and what they took from its rings and put on them. As in a
-- history, steps and logs have the newest first.
use Rattle.std.specs.Prelude.{◌≡◌, ◌⊎◌, ℕ, ◌==◌, ◌≤◌, if◌then◌else◌, length, List, [], ◌++◌, map, reverse, slice_index_or, true, Bool}
use Rattle.plan_model.specs.PlanData.{PlanData}
use Rattle.stream_model.specs.InputData.{InputData}
use Rattle.dataflow_model.specs.declared.message.Message.{Message}
use Rattle.dataflow_model.specs.Role.{is_source}
use Rattle.dataflow_model.specs.AbstractTask.{AbstractTask}
use Rattle.dataflow_model.specs.State.{Windows}
use Rattle.dataflow_model.specs.Steps.{Event}
use Rattle.dataflow_model.specs.Runs.{Run, taken, sent}
use Rattle.task_steps.specs.TaskData.{TaskData, Stands}
use Rattle.task_steps.specs.Reading.{HasPartitions, ReadsFrom}
use Rattle.task_steps.specs.Taking.{IsReady}
use Rattle.task_steps.specs.Answers.{GoesOn}
use Rattle.thread_runner.specs.declared.ends.Sender.{Sender}
use Rattle.thread_runner.specs.declared.ends.Receiver.{Receiver}
use Rattle.thread_runner.specs.Rings.{put_of, taken_of, ring_of, ring_at}

-- what was put on a ring, and what was taken from it, the newest first
abbrev pub put_log : Sender → List Message
put_log s = reverse (put_of s)

abbrev pub taken_log : Receiver → List Message
taken_log r = reverse (taken_of r)

-- of an input, and of an output (nothing, where there is none)
abbrev pub taken_at : List Receiver → ℕ → List Message
taken_at ins i = slice_index_or (map taken_log ins) i []

abbrev pub put_at : List Sender → ℕ → List Message
put_at outs o = slice_index_or (map put_log outs) o []

-- a task finds in the input what it is to read
pub record Finds (i : InputData) (d : TaskData) : Type 0 where
  pub columns : i.columns ≡ d.setup.columns
  pub time : i.time ≡ d.setup.time
  pub has : is_source d.setup.role ≡ true → HasPartitions d.setup i

-- it stands for task k of a layout and a leg, and reads in the input what that one has
pub record IsTaskOf (p : PlanData) (k : AbstractTask) (i : InputData) (d : TaskData) : Type 0 where
  pub stands : Stands p k d
  pub reads : is_source d.setup.role ≡ true → ReadsFrom k d.setup i

-- steps led a task on, of each task that it stands for, and they account for all that its ends took and put
pub record Works (i : InputData) (d : TaskData) (ins : List Receiver) (outs : List Sender) (d' : TaskData) (ins' : List Receiver) (outs' : List Sender) : Type 0 where
  pub steps : List Event
  pub on : GoesOn d d'
  pub ran : (p : PlanData) (k : AbstractTask) → IsTaskOf p k i d → Run p k d.state steps d'.state
  pub same_inputs : map ring_at ins' ≡ map ring_at ins
  pub same_outputs : map ring_of outs' ≡ map ring_of outs
  pub taken : (n : ℕ) → taken_at ins' n ≡ taken n steps ++ taken_at ins n
  pub put : (n : ℕ) → put_at outs' n ≡ sent n steps ++ put_at outs n

-- a task is as its accepted steps left it, but for its windows, which are the same where it is over, and whether a step
-- found no memory
pub record IsLeftOf (u d : TaskData) : Type 0 where
  pub windows : Windows
  pub has_failed : Bool
  pub is : d ≡ record u { state = record u.state { windows = windows }; has_failed = has_failed }
  pub whole : u.state.over ≡ true → windows ≡ u.state.windows

-- the same up to a step that was not made, for which a message more may have been taken from one input that could be
-- taken from
pub record WorksUpTo (i : InputData) (d : TaskData) (ins : List Receiver) (outs : List Sender) (d' : TaskData) (ins' : List Receiver) (outs' : List Sender) : Type 0 where
  pub last : TaskData
  pub steps : List Event
  pub on : GoesOn d last
  pub ran : (p : PlanData) (k : AbstractTask) → IsTaskOf p k i d → Run p k d.state steps last.state
  pub left : IsLeftOf last d'
  pub same_inputs : map ring_at ins' ≡ map ring_at ins
  pub same_outputs : map ring_of outs' ≡ map ring_of outs
  pub lost_at : ℕ
  pub lost : List Message
  pub one_lost : length lost ≤ 1
  pub ready : (lost ≡ []) ⊎ IsReady last lost_at
  pub taken : (n : ℕ) → taken_at ins' n ≡ (if n == lost_at then lost else []) ++ (taken n steps ++ taken_at ins n)
  pub put : (n : ℕ) → put_at outs' n ≡ sent n steps ++ put_at outs n
