-- What a world is made of, and the layout and opening states that it comes to.
use Rattle.std.specs.Prelude.{ℕ, List, []}
use Rattle.plan_model.specs.PlanData.{PlanData}
use Rattle.stream_model.specs.InputData.{InputData}
use Rattle.dataflow_model.specs.AbstractLayout.{AbstractLayout}
use Rattle.dataflow_model.specs.Leg.{Until}
use Rattle.dataflow_model.specs.Leg.Until.{TillAsked}
use Rattle.dataflow_model.specs.State.{State}
use Rattle.plan_compiler.specs.LayoutData.{LayoutData}
use Rattle.dataflow_laws.specs.Compiled.{layout_to}
use Rattle.redistribute.specs.StartData.{StartData}
use Rattle.redistribute.specs.Laws.{opening_states}
use Rattle.task_setups.specs.Legs.{counts_of}
use Rattle.core_steps.specs.declared.given.Begun.{Begun}
use Rattle.core_steps.specs.declared.given.Given.{Given}

-- a plan, its input, the start that the leg begins at, a layout, the cuts at which the leg takes savepoints on its way,
-- and how far it is to go
pub record GivenData : Type 0 where
  pub plan : PlanData
  pub input : InputData
  pub start : StartData
  pub layout : LayoutData
  pub saves : List (List (List ℕ))
  pub until : Until

abbrev pub given_data : Given → Until → GivenData
given_data g until = record { plan = g.plan.now; input = g.input.now; start = g.start.now; layout = g.layout.now; saves = counts_of g.saves.now; until = until }

-- the same of a leg whose tasks have begun
abbrev pub begun_data : Begun → Until → GivenData
begun_data b until = record { plan = b.plan.now; input = b.input.now; start = b.start.value; layout = b.layout.now; saves = counts_of b.saves.now; until = until }

-- that of a leg that may be asked to stop
abbrev pub given_asked : PlanData → InputData → StartData → LayoutData → GivenData
given_asked p i s l = record { plan = p; input = i; start = s; layout = l; saves = []; until = TillAsked }

-- the layout of its tasks in the abstract
abbrev pub layout_in : GivenData → AbstractLayout
layout_in g = layout_to g.plan g.input g.start.number g.saves g.until g.layout.stages

-- where a task begins: with its part of the start
abbrev pub start_in : GivenData → ℕ → State
start_in g t = opening_states g.plan g.start (layout_in g) g.layout.stages t
