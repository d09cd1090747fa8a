use Rattle.std.proofs.Common.{◌++◌, sym, ap, ◌∙◌}
use Rattle.gather.specs.Parts.{starts_at}
use Rattle.gather.proofs.Ranges.{flat_map-range}
use Rattle.gather.proofs.sources.starts_of.Goals as goal

pub loop-task-preserved : goal.loop-task-preserved
loop-task-preserved c =
    let f = starts_at c.args.layout.now.stages c.args.parts.now c.args.source in
    let task = c.loop-task.task in
    c.in_ok-extend_from_slice.ensures.items
    ∙ ap (λ xs. c.loop-task.starts.items ++ xs) c.starts_at.ensures
    ∙ ap (λ xs. xs ++ f task) c.loop-task.invariant
    ∙ sym (flat_map-range f task)
