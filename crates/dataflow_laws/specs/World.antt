-- All tasks and rings in one state, and its moves.
use Rattle.std.specs.Prelude.{◌≡◌, ℕ, ◌<◌, ◌≤◌, ◌==◌, List, [], ◌∷◌, ◌++◌, length, if◌then◌else◌}
use Rattle.plan_model.specs.PlanData.{PlanData}
use Rattle.dataflow_model.specs.declared.message.Message.{Message}
use Rattle.dataflow_model.specs.AbstractLayout.{AbstractLayout, IsLayout}
use Rattle.dataflow_model.specs.State.{State}
use Rattle.dataflow_model.specs.Steps.{Event, Open, Read, Save, Stop, Close, Take, Put, LocalStep}
use Rattle.dataflow_model.specs.History.{History}

pub record World : Type 0 where
  pub tasks : ℕ → State
  -- what was put on the ring from one task to another and not taken, the newest first
  pub rings : ℕ → ℕ → List Message

-- tasks with the state s at t
abbrev pub with_task : ℕ → State → (ℕ → State) → ℕ → State
with_task t s tasks u = if u == t then s else tasks u

-- rings with these messages on the one from s to t
abbrev pub with_ring : ℕ → ℕ → List Message → (ℕ → ℕ → List Message) → ℕ → ℕ → List Message
with_ring s t log rings x y = if x == s then (if y == t then log else rings x y) else rings x y

-- an event that touches no ring
abbrev pub IsInner : Event → Type 0
IsInner Open = Unit {0}
IsInner (Read n) = Unit {0}
IsInner Save = Unit {0}
IsInner Stop = Unit {0}
IsInner Close = Unit {0}
IsInner (Take i m) = ⊥
IsInner (Put j m) = ⊥

-- one task of the layout makes a local step: to take it takes the oldest message of the ring, and to put it needs fewer
-- messages there than the ring's capacity
pub data Move (p : PlanData) (l : AbstractLayout) (capacity : ℕ) : World → ℕ → Event → World → Type 0 where
  inner : {w : World} {t : ℕ} {e : Event} {s : State} → t ≤ l.sink → IsInner e → LocalStep p (l.task t) (w.tasks t) e s → Move p l capacity w t e (record w { tasks = with_task t s w.tasks })
  takes : {w : World} {t i : ℕ} {m : Message} {s : State} → t ≤ l.sink → (rest : List Message) → w.rings (l.from t i) t ≡ rest ++ m ∷ [] → LocalStep p (l.task t) (w.tasks t) (Take i m) s
      → Move p l capacity w t (Take i m) (record { tasks = with_task t s w.tasks; rings = with_ring (l.from t i) t rest w.rings })
  puts : {w : World} {t j : ℕ} {m : Message} {s : State} → t ≤ l.sink → length (w.rings t (l.to t j)) < capacity → j < (l.task t).outputs → LocalStep p (l.task t) (w.tasks t) (Put j m) s
      → Move p l capacity w t (Put j m) (record { tasks = with_task t s w.tasks; rings = with_ring t (l.to t j) (m ∷ w.rings t (l.to t j)) w.rings })

-- the worlds that moves lead to from a start with empty rings
pub data Reached (p : PlanData) (l : AbstractLayout) (capacity : ℕ) (start : ℕ → State) : World → Type 0 where
  begins : Reached p l capacity start (record { tasks = start; rings = λ s t. [] })
  moves : {w : World} {t : ℕ} {e : Event} {w' : World} → Reached p l capacity start w → Move p l capacity w t e w' → Reached p l capacity start w'

-- a history ends in this world
pub record EndsIn {p : PlanData} {l : AbstractLayout} {start : ℕ → State} (h : History p l start) (w : World) : Type 0 where
  pub tasks : h.end ≡ w.tasks
  pub rings : h.holds ≡ w.rings

abbrev pub IsEnd : PlanData → AbstractLayout → (ℕ → State) → World → Type 0
IsEnd p l start w = (h : History p l start) × EndsIn h w

-- a move leads from the end of a consistent history to the end of one
abbrev pub MovesKeepHistories : Type 0
MovesKeepHistories = (p : PlanData) (l : AbstractLayout) (capacity : ℕ) (start : ℕ → State) (w : World) (t : ℕ) (e : Event) (w' : World) → IsLayout l → IsEnd p l start w → Move p l capacity w t e w' → IsEnd p l start w'

-- so each reached world is such an end
abbrev pub WorldsAreHistories : Type 0
WorldsAreHistories = (p : PlanData) (l : AbstractLayout) (capacity : ℕ) (start : ℕ → State) (w : World) → IsLayout l → Reached p l capacity start w → IsEnd p l start w

-- and each of its rings holds no more messages than its capacity
abbrev pub RingsAreBounded : Type 0
RingsAreBounded = (p : PlanData) (l : AbstractLayout) (capacity : ℕ) (start : ℕ → State) (w : World) → Reached p l capacity start w → (s t : ℕ) → length (w.rings s t) ≤ capacity
