-- The text of a layout: its stages, edges, partitions and key groups.
use Rattle.std.specs.Prelude.{ℕ, List, [], ◌∷◌, ◌++◌, codes, length, slice_get, if◌then◌else◌}
use Rattle.std.specs.List.{flat_map, range_with_len}
use Rattle.std.specs.Option.{option_map_or}
use Rattle.std.specs.Fmt.{decimal}
use Rattle.dataflow_model.specs.Role.{is_source, is_window}
use Rattle.plan_model.specs.PlanData.{PlanData}
use Rattle.layout_rules.specs.declared.stage.Operator.{Operator}
use Rattle.layout_rules.specs.declared.stage.Operator.TheVariants.{Source, Filter, Window, Sink}
use Rattle.layout_rules.specs.declared.stage.Edge.{Edge}
use Rattle.layout_rules.specs.declared.stage.Edge.TheVariants.{Forward, ByGroup, Rebalance}
use Rattle.layout_rules.specs.declared.stage.Stage.{Stage}
use Rattle.layout_rules.specs.Stages.{next_stage, stage_at, task_count, stage_of, subtask_of, task_role, partitions_of, groups_of}
use Rattle.plan_compiler.specs.LayoutData.{LayoutData}

-- a space, and the number in decimal
abbrev pub spaced : ℕ → List ℕ
spaced n = 32 ∷ decimal n

-- an operator's uid; the sink has none
abbrev pub name_of : PlanData → Operator → List ℕ
name_of p (Source x) = option_map_or (λ s. s.uid) (slice_get p.sources x) []
name_of p (Filter f) = option_map_or (λ f. f.uid) (slice_get p.filters f) []
name_of p Window = p.window.uid
name_of p Sink = codes "(sink)"

-- the line of stage a: its number, its parallelism, its operators
abbrev pub stage_text : PlanData → List Stage → ℕ → List ℕ
stage_text p stages a = codes "stage" ++ spaced a ++ spaced (stage_at stages a).parallelism ++ flat_map (λ o. 32 ∷ name_of p o) (stage_at stages a).operators ++ 10 ∷ []

abbrev pub edge_name : Edge → List ℕ
edge_name Forward = codes "forward"
edge_name ByGroup = codes "group"
edge_name Rebalance = codes "rebalance"

-- the line of the edge from one stage to another
abbrev pub edge_line : ℕ → ℕ → Edge → List ℕ
edge_line from into edge = codes "edge" ++ spaced from ++ spaced into ++ 32 ∷ edge_name edge ++ 10 ∷ []

-- the line of the edge that leads out of stage a
abbrev pub edge_text : List Stage → ℕ → List ℕ
edge_text stages a = option_map_or (edge_line a (next_stage stages a)) (stage_at stages a).edge []

-- the line of a task: a word, where it stands, numbers
abbrev pub task_line : List ℕ → List Stage → ℕ → List ℕ → List ℕ
task_line word stages t numbers = word ++ spaced (stage_of stages t) ++ spaced (subtask_of stages t) ++ flat_map spaced numbers ++ 10 ∷ []

-- the partitions of a task, if it reads a source, and its key groups, if it has windows
abbrev pub partitions_text : LayoutData → ℕ → List ℕ
partitions_text l t = if is_source (task_role l.stages t) then task_line (codes "partitions") l.stages t (partitions_of l.partitions l.stages t) else []

abbrev pub groups_text : LayoutData → ℕ → List ℕ
groups_text l t =
    let range = groups_of l.max l.stages t in
    if is_window (task_role l.stages t) then task_line (codes "groups") l.stages t (range.first ∷ range.last ∷ []) else []

-- what a text says of each number below n, one after the other
abbrev pub of_each : ℕ → (ℕ → List ℕ) → List ℕ
of_each n said = flat_map said (range_with_len 0 n)

abbrev pub layout_text : PlanData → LayoutData → List ℕ
layout_text p l =
    of_each (length l.stages) (stage_text p l.stages) ++ of_each (length l.stages) (edge_text l.stages) ++ of_each (task_count l.stages) (partitions_text l) ++ of_each (task_count l.stages) (groups_text l)
