-- The laws of the legs that tasks run.
use Rattle.std.specs.Prelude.{List, []}
use Rattle.plan_model.specs.PlanData.{PlanData}
use Rattle.stream_model.specs.InputData.{InputData, BelongsTo}
use Rattle.dataflow_model.specs.Leg.Until.{TillAsked}
use Rattle.redistribute.specs.StartData.{StartData}
use Rattle.task_steps.specs.TaskData.{TaskData}
use Rattle.leg_tasks.specs.Beginning.{BeginLeg}
use Rattle.core_steps.specs.Given.{GivenData, layout_in}
use Rattle.core_steps.specs.World.{WorldData, world_in, IsGiven, IsSound, IsWorld}
use Rattle.core_steps.specs.Beginning.{AreNewTasks}
use Rattle.core_steps.specs.Finishing.{HasEnded, HasFinished}
use Rattle.core_steps.specs.declared.finish.Finish.{Finish}
use Rattle.core_steps.specs.Ending.{IsEndOf, IsAskedEnd}

-- what was read, compiled and started is sound
abbrev pub EachLegIsSound : Type 0
EachLegIsSound = (g : GivenData) → IsGiven g → IsSound g

-- tasks that begin a leg are new ones of its layout
abbrev pub TasksBeginNew : Type 0
TasksBeginNew = (g : GivenData) (tasks : List TaskData) → IsSound g → BelongsTo g.plan g.input → BeginLeg g.plan g.input g.start g.layout.stages (layout_in g) tasks → AreNewTasks g tasks

-- a world whose tasks are all done is a leg that has ended
abbrev pub WorldHasEnded : Type 0
WorldHasEnded = (w : WorldData) → IsWorld w → HasFinished w → HasEnded w.given (world_in w).tasks

-- a leg that may be asked to stop, and that takes no savepoint on its way, ends as such legs end
abbrev pub AskedLegsEnd : Type 0
AskedLegsEnd = (p : PlanData) (i : InputData) (s : StartData) (finish : Finish) → IsEndOf p i s [] TillAsked finish → IsAskedEnd p i s finish
