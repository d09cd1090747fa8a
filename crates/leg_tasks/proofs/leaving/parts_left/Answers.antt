use Rattle.std.proofs.Common.{rules, ◌≡◌, ℕ, ◌<◌, [], ◌∷◌, ◌++◌, map, sym, ap, subst, ◌∙◌, arith}
use Rattle.std.specs.Prelude.{slice_index_or}
use Rattle.std.specs.List.{range_with_len}
use Rattle.std.proofs.lemmas.List.FromFn.{map-range_with_len_more}
use Rattle.layout_rules.specs.Layouts.{partition_counts}
use Rattle.layout_rules.specs.Stages.{task_count}
use Rattle.plan_compiler.specs.LayoutData.{LayoutData}
use Rattle.aggregates.specs.Kinds.{kind_of}
use Rattle.redistribute.specs.declared.task_start.TaskStart.{TaskStart}
use Rattle.task_steps.specs.TaskData.{TaskData, IsWindowOf}
use Rattle.task_steps.specs.Keeping.{kinds_in}
use Rattle.gather.specs.Parts.{AreParts}
use Rattle.leg_tasks.specs.Leaving.{part_left, state_at}
use Rattle.leg_tasks.proofs.Known.{kinds_are, same_part}
use Rattle.leg_tasks.proofs.Saving.{states_in, have_states, parts_saved}
use Rattle.leg_tasks.proofs.leaving.parts_left.Goals as goal

pub loop-number-preserved : goal.loop-number-preserved
loop-number-preserved c = λ states have.
    let p = c.args.plan.now in
    let l = c.args.layout.now in
    let t = c.loop-number.number in
    let kinds = map kind_of p.window.aggregates in
    let f : ℕ → TaskStart = λ t. part_left (partition_counts p) kinds l.stages t (state_at c.args.at (states t)) in
    let task : TaskData = c.index-tasks-number.result in
    let here : t < task_count l.stages = search rules in
    let task_is : slice_index_or c.args.tasks.now t task ≡ task = search rules in
    let window : IsWindowOf p task.window = subst (λ (x : TaskData). IsWindowOf p x.window) task_is (c.requires.tasks.each t task here).window in
    let state_is = ap (state_at c.args.at) (sym (ap (λ (x : TaskData). x.state) task_is) ∙ have t task here) in
    let part_is : c.in_ok-part_left.field-0 ≡ f t =
    c.in_ok-part_left.ensures.says
    ∙ same_part l.partitions (partition_counts p) (kinds_in task.window) kinds l.stages t (state_at c.args.at task.state) (state_at c.args.at (states t)) (ap (λ (x : LayoutData). x.partitions) c.requires.laid_out.is) (λ w. kinds_are p task.window window (c.in_ok-part_left.ensures.operator w)) state_is in
    c.in_ok-push.ensures.items
    ∙ ap (λ x. c.loop-number.parts.items ++ x ∷ []) part_is
    ∙ ap (λ xs. xs ++ f t ∷ []) (c.loop-number.invariant states have)
    ∙ sym (map-range_with_len_more f 0 t t (omega arith))

pub returns-clause-says : goal.returns-clause-says
returns-clause-says c = λ states have.
    let p = c.args.plan.now in
    let l = c.args.layout.now in
    let f : ℕ → TaskStart = λ t. part_left (partition_counts p) (map kind_of p.window.aggregates) l.stages t (state_at c.args.at (states t)) in
    let all : c.loop-number.number ≡ task_count l.stages = search rules in
    c.loop-number.invariant states have ∙ ap (λ n. map f (range_with_len 0 n)) all

pub returns-clause-sound : goal.returns-clause-sound
returns-clause-sound c =
    let p = c.args.plan.now in
    let stages = c.args.layout.now.stages in
    let tasks = c.args.tasks.now in
    subst (AreParts p stages) (sym (returns-clause-says c (states_in tasks) (have_states p stages c.args.at tasks c.requires.tasks))) (parts_saved p stages c.args.at tasks c.requires.tasks)
