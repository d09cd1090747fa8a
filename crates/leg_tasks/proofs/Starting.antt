-- Tasks that begin with the parts of a start begin a leg.
use Rattle.std.proofs.Common.{◌≡◌, ℕ, suc, ◌≤◌, false, List, [], length, map, replicate, get_or, refl, sym, ap, subst, ◌∙◌, arith}
use Rattle.std.specs.FinMap.{empty, from_entries}
use Rattle.std.specs.List.{AllByRecursion}
use Rattle.std.proofs.lemmas.List.{length-map}
use Rattle.std.proofs.lemmas.List.FromFn.{length-map-range_with_len, get_or-map-range_with_len}
use Rattle.plain_data.specs.Times.{lowest}
use Rattle.plan_model.specs.PlanData.{PlanData, IsPlan}
use Rattle.stream_model.specs.InputData.{InputData, BelongsTo}
use Rattle.stream_model.specs.Watermarks.{IsCut}
use Rattle.dataflow_model.specs.declared.role.Role.{Role}
use Rattle.dataflow_model.specs.declared.role.Role.TheVariants.{Source, Chain, Window, Sink}
use Rattle.dataflow_model.specs.Role.{is_source}
use Rattle.dataflow_model.specs.Leg.{Leg, Until, leg_of}
use Rattle.dataflow_model.specs.AbstractLayout.{AbstractLayout}
use Rattle.dataflow_model.specs.Opening.{opening}
use Rattle.layout_rules.specs.declared.stage.Stage.{Stage}
use Rattle.layout_rules.specs.Rules.{IsCompiled}
use Rattle.layout_rules.specs.Scale.{ScaleData, IsScale}
use Rattle.layout_rules.specs.Layouts.{partition_counts}
use Rattle.layout_rules.specs.Stages.{source_of, task_stage, task_role, task_count, inputs_of, partitions_of, groups_of}
use Rattle.layout_rules.proofs.Facts.{sink_is_last}
use Rattle.input_flow.specs.InputEntries.{entries_of}
use Rattle.dataflow_laws.specs.Compiled.{layout_to}
use Rattle.window_state.specs.declared.parts.Part.{Part}
use Rattle.window_state.specs.Parts.{entries_of as entries_of_parts}
use Rattle.redistribute.specs.declared.task_start.PartitionStart.{PartitionStart}
use Rattle.redistribute.specs.StartData.{StartData}
use Rattle.redistribute.specs.Begins.{IsStartIn}
use Rattle.redistribute.specs.Parts.{partition_start, start_of_role, parts_within, with_windows, whole_task_start, IsPartFor}
use Rattle.redistribute.proofs.Facts.{open_within}
use Rattle.redistribute.specs.Laws.{opening_of}
use Rattle.task_steps.specs.Reading.{HasPartitions, ReadsFrom}
use Rattle.task_steps.specs.TaskData.{TaskData, Stands, windows_in}
use Rattle.task_setups.specs.Laws.{IsWithin}
use Rattle.task_setups.specs.Setups.{setup_of}
use Rattle.task_setups.proofs.Facts.{every_task_stands, every_task_reads}
use Rattle.leg_tasks.specs.Beginning.{offsets_in, marks_in, window_in, new_task, new_tasks, BeginLeg}
use Rattle.leg_tasks.proofs.Suiting.{when_false, operator}

-- the partitions that task t begins with, if it is a source's
abbrev starts_at : PlanData → StartData → List Stage → ℕ → List PartitionStart
starts_at p s stages t = map (partition_start s (source_of (task_stage stages t).operators)) (partitions_of (partition_counts p) stages t)

-- what stands in the windows of the key groups that task t has
abbrev parts_at : PlanData → StartData → List Stage → ℕ → List Part
parts_at p s stages t = parts_within (groups_of p.max stages t) s

pub is_part : (p : PlanData) (i : InputData) (s : StartData) (stages : List Stage) (t : ℕ) → IsStartIn p i s → IsPartFor p stages t (whole_task_start p.max (partition_counts p) s stages t)
is_part p i s stages t begins = record {
  starts = starts_at p s stages t;
  parts = parts_at p s stages t;
  is = refl;
  each = length-map (partitions_of (partition_counts p) stages t) (partition_start s (source_of (task_stage stages t).operators));
  sound = open_within p s.kinds (groups_of p.max stages t) s.groups begins.windows;
}

state_is : (p : PlanData) (r : Role) (starts : List PartitionStart) (parts : List Part) (k n : ℕ) → (is_source r ≡ false → k ≡ n)
    → let s = with_windows parts (start_of_role r starts) in opening k (offsets_in s) (marks_in n s) (windows_in (window_in p s)) ≡ opening_of k s
state_is p Source starts parts k n same = refl
state_is p Chain starts parts k n same = ap (λ m. opening k [] (replicate m lowest) empty) (sym (same refl))
state_is p Window starts parts k n same = ap (λ m. opening k [] (replicate m lowest) (from_entries (entries_of_parts parts))) (sym (same refl))
state_is p Sink starts parts k n same = ap (λ m. opening k [] (replicate m lowest) empty) (sym (same refl))

-- each begins in the state that the start has for it
opens : (p : PlanData) (s : StartData) (leg : Leg) (stages : List Stage) (t : ℕ) → (new_task p s leg stages t).state ≡ opening_of (setup_of p leg stages t).inputs (whole_task_start p.max (partition_counts p) s stages t)
opens p s leg stages t =
    let k = (setup_of p leg stages t).inputs in
    let n = length (inputs_of stages t) in
    state_is p (task_role stages t) (starts_at p s stages t) (parts_at p s stages t) k n (when_false (is_source (task_role stages t)) (length (partitions_of (partition_counts p) stages t)) n)

pub new_tasks_begin : (p : PlanData) (c : ScaleData) (i : InputData) (s : StartData) (n : ℕ) (saves : List (List (List ℕ))) (until : Until) (stages : List Stage) → IsPlan p → IsScale p c → IsCompiled p c stages → BelongsTo p i
    → AllByRecursion (IsCut i.sources) saves → IsWithin i until
    → BeginLeg p i s stages (layout_to p i n saves until stages) (new_tasks p s (leg_of n saves until (entries_of i).size) stages)
new_tasks_begin p c i s n saves until stages sound scaled compiled belongs_to cuts there =
    let leg : Leg = leg_of n saves until (entries_of i).size in
    let l : AbstractLayout = layout_to p i n saves until stages in
    let tasks = new_tasks p s leg stages in
    let count : task_count stages ≡ suc l.sink = sink_is_last p c stages sound scaled compiled in
    let at : (t : ℕ) (d : TaskData) → t ≤ l.sink → get_or tasks t d ≡ new_task p s leg stages t = λ t d m. get_or-map-range_with_len (new_task p s leg stages) 0 (task_count stages) t t d (omega (arith, m, count)) (omega arith) in
    let told : (t : ℕ) → Stands p (l.task t) (new_task p s leg stages t) = λ t.
    subst (λ v. Stands p (l.task t) (record { setup = setup_of p leg stages t; window = v; state = (new_task p s leg stages t).state; has_failed = false })) (sym (operator p leg stages t (task_role stages t) (starts_at p s stages t) (parts_at p s stages t) refl))
    (every_task_stands p (entries_of i) n saves until stages t (new_task p s leg stages t).state false) in
    record {
      count = length-map-range_with_len (new_task p s leg stages) 0 (task_count stages) ∙ count;
      stands = λ t d m. subst (Stands p (l.task t)) (sym (at t d m)) (told t);
      reads = λ t d m role. subst (λ (v : TaskData). HasPartitions v.setup i × ReadsFrom (l.task t) v.setup i) (sym (at t d m)) (every_task_reads p c i n saves until stages t sound scaled compiled belongs_to cuts there m role);
      going = λ t d m. ap (λ v. v.has_failed) (at t d m);
      opening = λ t d m. ap (λ v. v.state) (at t d m) ∙ opens p s leg stages t;
    }
