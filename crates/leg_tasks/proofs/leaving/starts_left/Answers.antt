use Rattle.std.proofs.Common.{[], ◌∷◌, ◌++◌, sym, ap, ◌∙◌, arith}
use Rattle.std.proofs.lemmas.List.FromFn.{map-range_with_len_more}
use Rattle.leg_tasks.specs.Leaving.{start_of, start_left, state_at}
use Rattle.leg_tasks.proofs.leaving.starts_left.Goals as goal

pub loop-place-preserved : goal.loop-place-preserved
loop-place-preserved c =
    let partitions = c.args.partitions.now in
    let f = start_left partitions (state_at c.args.at c.args.task.now.state) in
    let place = c.loop-place.place in
    c.in_ok-push.ensures.items
    ∙ ap (λ x. c.loop-place.starts.items ++ x ∷ []) (c.start_of.ensures ∙ (λ j. start_of partitions (c.offsets-offsets.ensures.says j) (c.marks-marks.ensures.says j) place))
    ∙ ap (λ xs. xs ++ f place ∷ []) c.loop-place.invariant
    ∙ sym (map-range_with_len_more f 0 place place (omega arith))
