-- The laws of what tasks are told.
use Rattle.std.specs.Prelude.{◌≡◌, ℕ, ◌≤◌, List, Bool}
use Rattle.std.specs.List.{AllByRecursion}
use Rattle.plan_model.specs.PlanData.{PlanData, IsPlan}
use Rattle.stream_model.specs.InputData.{InputData, BelongsTo}
use Rattle.stream_model.specs.Watermarks.{IsCut}
use Rattle.dataflow_model.specs.declared.role.Role.TheVariants.{Source}
use Rattle.dataflow_model.specs.Leg.{Until, leg_of}
use Rattle.dataflow_model.specs.Leg.Until.{ToEnd, ToCut, TillAsked}
use Rattle.dataflow_model.specs.State.{State}
use Rattle.layout_rules.specs.declared.stage.Stage.{Stage}
use Rattle.layout_rules.specs.Rules as rules
use Rattle.layout_rules.specs.Scale.{ScaleData, IsScale}
use Rattle.layout_rules.specs.Layouts.{Entries, abstract_task, abstract_layout}
use Rattle.task_steps.specs.TaskData.{Stands}
use Rattle.task_steps.specs.Reading.{HasPartitions, ReadsFrom}
use Rattle.input_flow.specs.InputEntries.{entries_of}
use Rattle.task_setups.specs.Setups.{setup_of, window_of}

-- a task that is told what task t of a leg is to be told stands for it
abbrev pub EveryTaskStands : Type 0
EveryTaskStands = (p : PlanData) (e : Entries) (n : ℕ) (saves : List (List (List ℕ))) (until : Until) (stages : List Stage) (t : ℕ) (s : State) (has_failed : Bool)
    → let leg = leg_of n saves until e.size in Stands p (abstract_task p e leg stages t) (record { setup = setup_of p leg stages t; window = window_of p stages t; state = s; has_failed = has_failed })

-- where a leg goes to a cut, it is one of the input
abbrev pub IsWithin : InputData → Until → Type 0
IsWithin i ToEnd = Unit {0}
IsWithin i (ToCut cut) = IsCut i.sources cut
IsWithin i TillAsked = Unit {0}

-- a source of a compiled layout that is told what task t of a leg is to be told finds its partitions in the input, as
-- far as the leg reads them, and reads there what the layout's task has
abbrev pub EveryTaskReads : Type 0
EveryTaskReads = (p : PlanData) (c : ScaleData) (i : InputData) (n : ℕ) (saves : List (List (List ℕ))) (until : Until) (stages : List Stage) (t : ℕ)
    → IsPlan p → IsScale p c → rules.IsCompiled p c stages → BelongsTo p i → AllByRecursion (IsCut i.sources) saves → IsWithin i until
    → let leg = leg_of n saves until (entries_of i).size in
    let l = abstract_layout p (entries_of i) leg stages (rules.window_of stages) in
    t ≤ l.sink → (l.task t).role ≡ Source → HasPartitions (setup_of p leg stages t) i × ReadsFrom (l.task t) (setup_of p leg stages t) i
