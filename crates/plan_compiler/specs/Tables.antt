-- What a layout has of each task.
use Rattle.std.specs.Prelude.{ℕ, List, map}
use Rattle.std.specs.List.{range_with_len}
use Rattle.layout_rules.specs.declared.stage.Stage.{Stage}
use Rattle.layout_rules.specs.Stages.{task_count, inputs_of, outputs_of, partitions_of}
use Rattle.plan_compiler.specs.declared.tasks.Links.{Links}

-- what f has for each task, in order
abbrev pub each_task : {X : Type 0} → List Stage → (ℕ → X) → List X
each_task stages f = map f (range_with_len 0 (task_count stages))

-- what a task is linked to, where the sources have so many partitions
abbrev pub links_of : List ℕ → List Stage → ℕ → Links
links_of counts stages t = record { inputs = inputs_of stages t; outputs = outputs_of stages t; partitions = partitions_of counts stages t }
