use Rattle.std.proofs.Common.{[], ◌∷◌, ◌++◌, sym, ap, ◌∙◌, arith}
use Rattle.std.proofs.lemmas.List.FromFn.{map-range_with_len_more}
use Rattle.redistribute.specs.Parts.{whole_task_start}
use Rattle.redistribute.proofs.spreading.spread.Goals as goal

pub loop-task-preserved : goal.loop-task-preserved
loop-task-preserved c =
    let l = c.args.layout.now in
    let part = whole_task_start l.max l.partitions c.args.start.now l.stages in
    let task = c.loop-task.task in
    c.in_ok-push.ensures.items
    ∙ ap (λ x. c.loop-task.starts.items ++ x ∷ []) c.in_ok-task_start.ensures
    ∙ ap (λ xs. xs ++ part task ∷ []) c.loop-task.invariant
    ∙ sym (map-range_with_len_more part 0 task task (omega arith))
