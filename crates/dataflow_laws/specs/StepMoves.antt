-- Which move of a world a step asks for.
use Rattle.std.specs.Prelude.{◌≡◌, ℕ}
use Rattle.plan_model.specs.PlanData.{PlanData}
use Rattle.dataflow_model.specs.declared.message.Message.{Message}
use Rattle.dataflow_model.specs.AbstractLayout.{AbstractLayout}
use Rattle.dataflow_model.specs.Steps as event
use Rattle.dataflow_model.specs.Steps.{Event}
use Rattle.dataflow_laws.specs.World.{World, Move}
use Rattle.dataflow_laws.specs.StepTask.{task_of}
use Rattle.dataflow_laws.specs.declared.step.Step.{Step}
use Rattle.dataflow_laws.specs.declared.step.Step.TheVariants.{Open, Read, Save, Stop, Close, Take, Put}

-- the events that it asks for: which message is taken or put, and on which output, the world says
abbrev pub IsEventOf : Step → Event → Type 0
IsEventOf (Open t) e = e ≡ event.Open
IsEventOf (Read t q) e = e ≡ event.Read q
IsEventOf (Save t) e = e ≡ event.Save
IsEventOf (Stop t) e = e ≡ event.Stop
IsEventOf (Close t) e = e ≡ event.Close
IsEventOf (Take t i) e = (m : Message) × (e ≡ event.Take i m)
IsEventOf (Put t) e = (j : ℕ) × (m : Message) × (e ≡ event.Put j m)

-- the move that it asks for leads from one world to another
pub record Makes (p : PlanData) (l : AbstractLayout) (capacity : ℕ) (w : World) (step : Step) (next : World) : Type 0 where
  pub event : Event
  pub is : IsEventOf step event
  pub move : Move p l capacity w (task_of step) event next
