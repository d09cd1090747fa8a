use Rattle.std.proofs.Common.{◌≡◌, ◌∙◌, rules, ap, cond, List, Option}
use Rattle.std.specs.Int.{w64}
use Rattle.std.proofs.lemmas.Int.{to_z-of_z}
use Rattle.plan_model.specs.Aggregates.{Aggregated, merge}
use Rattle.plan_model.specs.Windows.{is_within}
use Rattle.window_slices.specs.declared.key_slices.Slice.{Slice}
use Rattle.window_slices.specs.KeySlices.{slices_total}
use Rattle.window_slices.proofs.SliceAdds.{total_push}
use Rattle.window_slices.proofs.key_slices.add_to.Goals as goal

pub returns-in-Ok-clause-added : goal.returns-in-Ok-clause-added
returns-in-Ok-clause-added c = λ s.
    let w = c.args.w.now in
    let kept : c.add_there.new.slices.items ≡ c.args.slices.now.items = search rules in
    let same = to_z-of_z w64 c.args.start c.ranges.start in
    let total : List Slice → Option Aggregated = slices_total w s in
    let more : List Slice → Option Aggregated → Option Aggregated = λ l. merge w.aggregates (slices_total w s l) in
    ap (slices_total w s) c.in-Ok.ensures.items
    ∙ total_push w s c.add_there.new.slices.items _
    ∙ (λ i. cond (is_within w s (same i)) (more (kept i) (c.first-acc.ensures.total i)) (total (kept i)))
