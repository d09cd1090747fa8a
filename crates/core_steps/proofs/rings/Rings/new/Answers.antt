use Rattle.std.proofs.Common.{◌≡◌, ◌*◌, ◌<◌, sym, subst, ◌∙◌, arith}
use Rattle.core_steps.proofs.NewRings.{new_rings}
use Rattle.core_steps.proofs.rings.Rings.new.Goals as goal

pub returns : goal.returns
returns c =
    let n = c.task_count-tasks.result in
    let end : c.loop-place.place ≡ n * n = omega arith in
    new_rings c.args.layout.now.stages c.args.layout.now.capacity c.loop-place.queues.items n c.task_count-tasks.ensures.says (c.loop-place.invariant.0 ∙ end) (λ k d l. c.loop-place.invariant.1 k d (subst (λ v. k < v) (sym end) l))
