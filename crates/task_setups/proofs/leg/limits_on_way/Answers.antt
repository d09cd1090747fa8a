use Rattle.std.proofs.Common.{[], ◌∷◌, ◌++◌, map, sym, ap, ◌∙◌, arith}
use Rattle.std.specs.List.{range_with_len}
use Rattle.std.proofs.lemmas.List.FromFn.{map-range_with_len_more}
use Rattle.task_setups.specs.Legs.{leg_over}
use Rattle.task_setups.specs.Setups.{limits_at}
use Rattle.task_setups.proofs.leg.limits_on_way.Goals as goal

pub loop-save-preserved : goal.loop-save-preserved
loop-save-preserved c =
    let f = limits_at (leg_over c.args.leg.now c.args.input.now) c.args.source c.args.partitions.now in
    let m = c.loop-save.save in
    c.in_ok-push.ensures.items
    ∙ ap (λ rows. rows ++ c.in_ok-limits_of.field-0 ∷ []) c.loop-save.invariant
    ∙ ap (λ row. map f (range_with_len 0 m) ++ row ∷ []) c.in_ok-limits_of.ensures
    ∙ sym (map-range_with_len_more f 0 m m (omega arith))
