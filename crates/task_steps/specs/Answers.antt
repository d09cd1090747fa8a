-- What a step of a task answers.
use Rattle.std.specs.Prelude.{◌≡◌, ℕ, Bool, List, ◌∷◌, Result, Ok, Err, true, false}
use Rattle.plan_model.specs.PlanData.{PlanData}
use Rattle.dataflow_model.specs.AbstractTask.{AbstractTask}
use Rattle.dataflow_model.specs.State.{Windows, State}
use Rattle.stream_model.specs.InputData.{InputData}
use Rattle.dataflow_model.specs.declared.message.Message.{Message}
use Rattle.dataflow_model.specs.declared.message.Message.TheVariants.{Rows, Fired, Watermark, Barrier, End}
use Rattle.dataflow_model.specs.Role.{is_source}
use Rattle.dataflow_model.specs.Steps.{Event, Open, Read, Save, Stop, Close, Take, Put, LocalStep, Takes, CanOpen, CanRun, MayRead, MaySave, MayStop, MayClose}
use Rattle.task_steps.specs.declared.fault.StepFault.{StepFault}
use Rattle.task_steps.specs.declared.fault.StepFault.TheVariants.{NotEnabled, Memory, Failed}
use Rattle.task_steps.specs.TaskData.{TaskData, Stands}
use Rattle.task_steps.specs.Reading.{ReadsFrom}

-- the events that records are taken by
abbrev pub is_rows : Event → Bool
is_rows Open = false
is_rows (Read q) = false
is_rows Save = false
is_rows Stop = false
is_rows Close = false
is_rows (Take i (Rows t)) = true
is_rows (Take i (Fired rows)) = false
is_rows (Take i (Watermark t)) = false
is_rows (Take i (Barrier n)) = false
is_rows (Take i End) = false
is_rows (Put j m) = false

-- it found no memory: it has failed, it was not over, and it is as it was, but for its windows where records were taken
pub record HasFailed (e : Event) (old new : TaskData) : Type 0 where
  pub windows : Windows
  pub is : new ≡ record old { state = record old.state { windows = windows }; has_failed = true }
  pub spoiled : is_rows e ≡ false → windows ≡ old.state.windows
  pub going : old.state.over ≡ false

-- the task is where it was, but for its state
pub record GoesOn (old new : TaskData) : Type 0 where
  pub is : new ≡ record old { state = new.state }

-- the step of every task of a layout that it stands for is made; or there is none, and nothing has changed; or memory
-- was refused
abbrev pub Answers : (PlanData → AbstractTask → Type 0) → (PlanData → AbstractTask → State → Type 0) → Event → TaskData → TaskData → Result (Unit {0}) StepFault → Type 0
Answers is can e old new (Ok x) = (old.has_failed ≡ false) × GoesOn old new × ((p : PlanData) (k : AbstractTask) → is p k → LocalStep p k old.state e new.state)
Answers is can e old new (Err NotEnabled) = (old.has_failed ≡ false) × (new ≡ old) × ((p : PlanData) (k : AbstractTask) → is p k → can p k old.state → ⊥)
Answers is can e old new (Err Memory) = (old.has_failed ≡ false) × HasFailed e old new × ((p : PlanData) (k : AbstractTask) → is p k → can p k old.state)
Answers is can e old new (Err Failed) = (old.has_failed ≡ true) × (new ≡ old)

-- what an event needs of a task of a layout
abbrev pub CanStep : Event → PlanData → AbstractTask → State → Type 0
CanStep Open p k s = CanOpen k s
CanStep (Read n) p k s = MayRead k s n
CanStep Save p k s = CanRun k s × MaySave k s
CanStep Stop p k s = CanRun k s × MayStop k.ending k s
CanStep Close p k s = CanRun k s × MayClose k.ending k s
CanStep (Take i m) p k s = Takes p k s i m
CanStep (Put j m) p k s = (rest : List (ℕ × Message)) × (s.pending ≡ (j, m) ∷ rest)

-- the step of an event is made, or refused, for every task of a layout that this one stands for
abbrev pub StepsOrRefuses : Event → TaskData → TaskData → Result (Unit {0}) StepFault → Type 0
StepsOrRefuses e old new said = Answers (λ p k. Stands p k old) (CanStep e) e old new said

-- that of reading partition n of an input, for every one that reads that input
abbrev pub ReadsOrRefuses : ℕ → InputData → TaskData → TaskData → Result (Unit {0}) StepFault → Type 0
ReadsOrRefuses n input old new said = Answers (λ p k. Stands p k old × (is_source old.setup.role ≡ true → ReadsFrom k old.setup input)) (CanStep (Read n)) (Read n) old new said
