-- What a task of a leg is told.
use Rattle.std.specs.Prelude.{ℕ, List, [], ◌∷◌, ◌++◌, Option, Some, None, length, map, take, drop, if◌then◌else◌}
use Rattle.std.specs.List.{range_with_len}
use Rattle.plan_model.specs.declared.spec.FilterSpec.{FilterSpec}
use Rattle.plan_model.specs.declared.spec.WindowSpec.{WindowSpec}
use Rattle.plan_model.specs.PlanData.{PlanData}
use Rattle.dataflow_model.specs.Role.{is_source, is_window}
use Rattle.dataflow_model.specs.Leg.{Leg}
use Rattle.layout_rules.specs.declared.stage.Operator.{Operator}
use Rattle.layout_rules.specs.declared.stage.Operator.TheVariants.{Source, Filter, Window, Sink}
use Rattle.layout_rules.specs.declared.stage.Edge.{Edge}
use Rattle.layout_rules.specs.declared.stage.Edge.TheVariants.{Forward, ByGroup, Rebalance}
use Rattle.layout_rules.specs.declared.stage.Stage.{Stage}
use Rattle.layout_rules.specs.Stages.{parallelism_at, role_of, source_of, next_stage, stage_of, task_stage, inputs_of, outputs_of, partitions_of}
use Rattle.layout_rules.specs.Layouts.{partition_counts}
use Rattle.task_steps.specs.declared.setup.Setup.{Setup}
use Rattle.task_steps.specs.declared.setup.Split.{Split}

-- by what the tasks of a stage deal out records, if its edge leads to n subtasks
abbrev pub split_of : PlanData → Option Edge → ℕ → Option Split
split_of p None n = None
split_of p (Some Forward) n = None
split_of p (Some ByGroup) n = Some (record { max = p.max; par = n })
split_of p (Some Rebalance) n = None

-- the filters among some operators
abbrev pub filters_of : PlanData → List Operator → List FilterSpec
filters_of p [] = []
filters_of p (Source x ∷ os) = filters_of p os
filters_of p (Filter f ∷ os) = take 1 (drop f p.filters) ++ filters_of p os
filters_of p (Window ∷ os) = filters_of p os
filters_of p (Sink ∷ os) = filters_of p os

-- how far each of some partitions of source x is read until savepoint m is taken
abbrev pub limits_at : Leg → ℕ → List ℕ → ℕ → List ℕ
limits_at leg x partitions m = map (λ q. leg.limit m x q) partitions

-- what task t of a leg is told
abbrev pub setup_of : PlanData → Leg → List Stage → ℕ → Setup
setup_of p leg stages t =
    let s = task_stage stages t in
    let x = source_of s.operators in
    let mine = partitions_of (partition_counts p) stages t in
    record {
      number = t;
      role = role_of s.operators;
      inputs = if is_source (role_of s.operators) then length mine else length (inputs_of stages t);
      outputs = length (outputs_of stages t);
      split = split_of p s.edge (parallelism_at stages (next_stage stages (stage_of stages t)));
      filters = filters_of p s.operators;
      having = p.window.having;
      columns = p.columns;
      time = p.window.time;
      key = p.window.key;
      source = x;
      partitions = mine;
      limits = map (limits_at leg x mine) (range_with_len 0 leg.saves);
      ends = limits_at leg x mine leg.saves;
      first = leg.first;
      saves = leg.saves;
      ending = leg.ending;
    }

-- the window operator of a task, if it has one
abbrev pub window_of : PlanData → List Stage → ℕ → Option WindowSpec
window_of p stages t = if is_window (role_of (task_stage stages t).operators) then Some p.window else None
