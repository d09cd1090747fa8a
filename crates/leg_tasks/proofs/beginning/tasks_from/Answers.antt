use Rattle.std.proofs.Common.{◌≡◌, ℕ, ◌<◌, List, [], ◌∷◌, ◌++◌, length, map, get_or, sym, ap, subst, ◌∙◌, arith}
use Rattle.std.specs.List.{range_with_len}
use Rattle.std.proofs.lemmas.List.FromFn.{length-map-range_with_len, get_or-map-range_with_len, map-range_with_len_more}
use Rattle.plan_model.specs.PlanData.{PlanData}
use Rattle.layout_rules.specs.declared.stage.Stage.{Stage}
use Rattle.layout_rules.specs.Layouts.{partition_counts}
use Rattle.layout_rules.specs.Stages.{task_count}
use Rattle.plan_compiler.specs.Tables.{each_task}
use Rattle.redistribute.specs.declared.task_start.TaskStart.{TaskStart}
use Rattle.redistribute.specs.StartData.{StartData}
use Rattle.redistribute.specs.Parts.{whole_task_start, IsPartFor}
use Rattle.task_setups.specs.Legs.{leg_over}
use Rattle.leg_tasks.specs.Beginning.{begun_with, new_task}
use Rattle.leg_tasks.proofs.Starting.{is_part}
use Rattle.leg_tasks.proofs.beginning.tasks_from.Goals as goal

-- the part that stands at a task's place is its own
own_part : (p : PlanData) (s : StartData) (stages : List Stage) (parts : List TaskStart) (t : ℕ) (part : TaskStart) → parts ≡ each_task stages (whole_task_start p.max (partition_counts p) s stages) → t < task_count stages
    → part ≡ get_or parts t part → part ≡ whole_task_start p.max (partition_counts p) s stages t
own_part p s stages parts t part all l here = here ∙ ap (λ (xs : List TaskStart). get_or xs t part) all ∙ get_or-map-range_with_len (whole_task_start p.max (partition_counts p) s stages) 0 (task_count stages) t t part l (omega arith)

pub index-part-requires : goal.index-part-requires
index-part-requires c =
    let stages = c.args.layout.now.stages in
    let f = whole_task_start c.args.plan.now.max (partition_counts c.args.plan.now) c.args.start.now stages in
    let e = c.in_ok-parts.parts.ok.0 in
    let n = ap (λ (xs : List TaskStart). length xs) c.in_ok-parts.ensures ∙ length-map-range_with_len f 0 (task_count stages) in
    omega (arith, c.loop-task-test.true, c.task_count-task-end.ensures.says, e, n)

pub task_from-requires-clause-part : goal.task_from-requires-clause-part
task_from-requires-clause-part c =
    let p = c.args.plan.now in
    let s = c.args.start.now in
    let stages = c.args.layout.now.stages in
    let t = c.loop-task.task in
    let mine = own_part p s stages c.in_ok-parts.parts.items t c.index-part.result.now c.in_ok-parts.ensures (omega (arith, c.loop-task-test.true, c.task_count-task-end.ensures.says)) c.index-part.ensures in
    subst (IsPartFor p stages t) (sym mine) (is_part p c.args.input.now s stages t c.requires.starts)

pub loop-task-preserved : goal.loop-task-preserved
loop-task-preserved c =
    let p = c.args.plan.now in
    let s = c.args.start.now in
    let stages = c.args.layout.now.stages in
    let leg = leg_over c.args.leg.now c.args.input.now in
    let t = c.loop-task.task in
    let f = new_task p s leg stages in
    let mine = own_part p s stages c.in_ok-parts.parts.items t c.index-part.result.now c.in_ok-parts.ensures (omega (arith, c.loop-task-test.true, c.task_count-task-end.ensures.says)) c.index-part.ensures in
    c.in_ok-push.ensures.items
    ∙ ap (λ ts. ts ++ c.in_ok-task_from.field-0 ∷ []) c.loop-task.invariant
    ∙ ap (λ x. map f (range_with_len 0 t) ++ x ∷ []) (c.in_ok-task_from.ensures ∙ ap (begun_with p leg stages t) mine)
    ∙ sym (map-range_with_len_more f 0 t t (omega arith))
