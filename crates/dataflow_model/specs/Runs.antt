-- Lists of local steps, and the messages that they take and put. Steps and logs have the newest first.
use Rattle.std.specs.Prelude.{ℕ, ◌==◌, List, [], ◌∷◌, if◌then◌else◌}
use Rattle.plan_model.specs.PlanData.{PlanData}
use Rattle.dataflow_model.specs.Message.{Message}
use Rattle.dataflow_model.specs.AbstractTask.{AbstractTask}
use Rattle.dataflow_model.specs.State.{State}
use Rattle.dataflow_model.specs.Steps.{Event, Open, Read, Save, Stop, Close, Take, Put, LocalStep}

pub data Run (p : PlanData) (k : AbstractTask) (from : State) : List Event → State → Type 0 where
  none : Run p k from [] from
  more : {es : List Event} {s : State} {e : Event} {s' : State} → Run p k from es s → LocalStep p k s e s' → Run p k from (e ∷ es) s'

-- what was taken from input i, and what was put on output j
abbrev pub taken : ℕ → List Event → List Message
taken i [] = []
taken i (Open ∷ es) = taken i es
taken i (Read q ∷ es) = taken i es
taken i (Save ∷ es) = taken i es
taken i (Stop ∷ es) = taken i es
taken i (Close ∷ es) = taken i es
taken i (Take j m ∷ es) = if i == j then m ∷ taken i es else taken i es
taken i (Put j m ∷ es) = taken i es

abbrev pub sent : ℕ → List Event → List Message
sent j [] = []
sent j (Open ∷ es) = sent j es
sent j (Read q ∷ es) = sent j es
sent j (Save ∷ es) = sent j es
sent j (Stop ∷ es) = sent j es
sent j (Close ∷ es) = sent j es
sent j (Take i m ∷ es) = sent j es
sent j (Put i m ∷ es) = if j == i then m ∷ sent j es else sent j es

-- the messages for output j
abbrev pub only : ℕ → List (ℕ × Message) → List Message
only j [] = []
only j (p ∷ ps) = if j == p.0 then p.1 ∷ only j ps else only j ps

-- a log with messages put after it, one after another
abbrev pub onto : List Message → List Message → List Message
onto [] log = log
onto (m ∷ ms) log = onto ms (m ∷ log)

-- what was put on output j or is pending for it
abbrev pub given : ℕ → List Event → State → List Message
given j es s = onto (only j s.pending) (sent j es)
