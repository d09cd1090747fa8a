-- What each local step needs.
use Rattle.std.specs.Prelude.{◌≡◌, ℕ, List, ◌∷◌}
use Rattle.plan_model.specs.PlanData.{PlanData}
use Rattle.dataflow_model.specs.declared.message.Message.{Message}
use Rattle.dataflow_model.specs.AbstractTask.{AbstractTask}
use Rattle.dataflow_model.specs.State.{State}
use Rattle.dataflow_model.specs.Steps.{Event, Open, Read, Save, Stop, Close, Take, Put, CanOpen, CanRun, MayRead, Takes, MaySave, MayStop, MayClose, LocalStep}

-- what an event needs of the task and its state
abbrev pub Needs : PlanData → AbstractTask → State → Event → Type 0
Needs p k s Open = CanOpen k s
Needs p k s (Read n) = MayRead k s n
Needs p k s Save = CanRun k s × MaySave k s
Needs p k s Stop = CanRun k s × MayStop k.ending k s
Needs p k s Close = CanRun k s × MayClose k.ending k s
Needs p k s (Take i m) = Takes p k s i m
Needs p k s (Put j m) = (rest : List (ℕ × Message)) × (s.pending ≡ (j, m) ∷ rest)

-- a step is made only where that holds
abbrev pub StepNeeds : Type 0
StepNeeds = (p : PlanData) (k : AbstractTask) (s : State) (e : Event) (s' : State) → LocalStep p k s e s' → Needs p k s e

-- and where it holds there is one
abbrev pub NeedsStep : Type 0
NeedsStep = (p : PlanData) (k : AbstractTask) (s : State) (e : Event) → Needs p k s e → (s' : State) × LocalStep p k s e s'
