-- The laws for callers that make a leg's rings and settle them themselves.
use Rattle.std.specs.Prelude.{◌≡◌, List, length, map}
use Rattle.plan_model.specs.PlanData.{PlanData, IsPlan}
use Rattle.layout_rules.specs.Stages.{task_count}
use Rattle.plan_compiler.specs.LayoutData.{LayoutData}
use Rattle.task_setups.specs.Legs.{IsLayoutOf}
use Rattle.core_steps.specs.Given.{GivenData}
use Rattle.core_steps.specs.World.{IsSound}
use Rattle.core_steps.specs.Beginning.{AreNewTasks}
use Rattle.core_steps.specs.Finishing.{AreAtEnd}
use Rattle.core_steps.specs.Sealing.{AreOnTheWay}
use Rattle.thread_runner.specs.declared.jobs.Job.{Job}
use Rattle.thread_runner.specs.declared.jobs.Done.{Done}
use Rattle.thread_runner.specs.Edges.{HasEdges, HasRings, AreJoined, AreLeft, SameDones, job_task, done_task, out_names, in_names, put_tables, taken_tables}
use Rattle.thread_runner.specs.Legs.{Wired, AreWired, AreWorked, NoFaults}

-- in the layout of a plan each output of a task is an edge with a place among the inputs of a later task, and each ring
-- an output
abbrev pub LayoutsHaveEdges : Type 0
LayoutsHaveEdges = (p : PlanData) (l : LayoutData) → IsPlan p → IsLayoutOf p l → HasEdges l.stages × HasRings l.stages

-- jobs of a leg's new tasks that were given a ring for each edge are as a leg begins
abbrev pub JobsAreWired : Type 0
JobsAreWired = (g : GivenData) (first js : List Job) → AreNewTasks g (map job_task first) → Wired g.layout.stages first js → AreWired g js

-- workers hand back one task each, and both ends of every ring, also where memory was refused to some
abbrev pub WorkersHandBackRings : Type 0
WorkersHandBackRings = (g : GivenData) (ds : List Done) → AreWorked g ds
    → (length ds ≡ task_count g.layout.stages) × AreJoined g.layout.stages (out_names ds) (in_names ds)

-- and what they hand back, settled, stands on the way of a leg: a consistent history of the steps that were accepted
-- leads there
abbrev pub WorkersAreOnTheWay : Type 0
WorkersAreOnTheWay = (g : GivenData) (ds ds' : List Done) → IsSound g → AreWorked g ds → SameDones ds ds' → AreLeft g.layout.stages (put_tables ds') (taken_tables ds') → AreOnTheWay g (map done_task ds')

-- without a fault it is the end of a complete one
abbrev pub WorkersAreAtEnd : Type 0
WorkersAreAtEnd = (g : GivenData) (ds ds' : List Done) → IsSound g → AreWorked g ds → NoFaults ds → SameDones ds ds' → AreLeft g.layout.stages (put_tables ds') (taken_tables ds') → AreAtEnd g (map done_task ds')
