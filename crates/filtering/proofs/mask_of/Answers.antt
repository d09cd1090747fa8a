use Rattle.std.proofs.Common.{◌≡◌, ◌<◌, ◌∙◌, Bool, FitsSigned, to_z, of_z, length, ap, arith, rules}
use Rattle.std.specs.Int.{w64}
use Rattle.std.proofs.lemmas.Int.{to_z-of_z}
use Rattle.lane_kernels.specs.Compare.{narrowed}
use Rattle.plan_model.specs.declared.spec.FilterSpec.{FilterSpec}
use Rattle.columns.proofs.Facts.{written_whole}
use Rattle.filtering.proofs.Masks.{mask_start, mask_next}
use Rattle.filtering.proofs.mask_of.Goals as goal

pub loop-filter-init : goal.loop-filter-init
loop-filter-init c = (search rules) ∙ mask_start c.args.batch.now.rows

pub loop-filter-preserved : goal.loop-filter-preserved
loop-filter-preserved c =
    let f : FilterSpec = c.filter-item.result in
    let fits : FitsSigned w64 f.value = search rules in
    let value : to_z w64 (of_z w64 f.value) ≡ f.value = to_z-of_z w64 f.value fits in
    let inside : c.loop-filter.filter-index < length c.args.filters.now = omega arith in
    written_whole c.and_compare.new.mask c.loop-filter.mask.items c.loop-filter.mask.len c.loop-filter.mask.ok.0 (c.and_compare.auto.mask ∙ ap (length {A = Bool}) c.deref_mut.ensures.value)
    ∙ c.and_compare.ensures
    ∙ (λ i. narrowed f.cmp (value i) (c.column-column.ensures i) (c.deref_mut.ensures.value i))
    ∙ mask_next c.args.filters.now c.loop-filter.filter-index f c.args.batch.now.rows c.loop-filter.mask.items inside c.filter-item.is c.loop-filter.invariant
