use Rattle.std.proofs.Common.{◌≡◌, ◌∙◌, ◌<◌, length, [], ◌∷◌, sym, ap, subst, cond, slice_index_or, slice_set, List}
use Rattle.std.specs.Int.{w64}
use Rattle.std.specs.List.{All}
use Rattle.std.proofs.lemmas.Int.{to_z-of_z}
use Rattle.std.proofs.lemmas.List.{with_items_is, length-set}
use Rattle.std.proofs.lemmas.List.Elements.{All-set}
use Rattle.plan_model.specs.Aggregates.{aggregate_of, merge}
use Rattle.plan_model.specs.Windows.{is_within}
use Rattle.window_slices.specs.declared.key_slices.Slice.{Slice}
use Rattle.window_slices.specs.KeySlices.{IsSliceOf, slices_total}
use Rattle.window_slices.proofs.SliceAdds.{total_set}
use Rattle.window_slices.proofs.key_slices.add_there.Goals as goal

pub returns-in-Some-clause-added : goal.returns-in-Some-clause-added
returns-in-Some-clause-added c = λ yes s.
    let w = c.args.w.now in
    let old : List Slice = c.as_mut_slice.result.now in
    let i = c.in-Some.place in
    let was : Slice = c.index-as_mut_slice-place.result in
    let x : Slice = record { start = (slice_index_or old i was).start; acc = c.add.new.self } in
    let one = aggregate_of w.aggregates (slice_index_or c.args.batch.now.rows c.args.row [] ∷ []) in
    let items = c.as_mut_slice.ensures.value ∙ sym c.as_slice.ensures.value in
    let start : (slice_index_or old i was).start ≡ c.args.start =
    ap (λ l. (slice_index_or l i was).start) items ∙ c.in-Some.ensures.there.1 was ∙ to_z-of_z w64 c.args.start c.ranges.start in
    let more = c.add.ensures.total in
    ap (slices_total w s) (with_items_is c.args.slices.now (slice_set old i x) (length-set old i x ∙ c.as_mut_slice.ensures.len))
    ∙ total_set w s c.args.start one old i was x (subst (λ l. i < length l) (sym items) c.in-Some.ensures.there.0) start start more
    ∙ ap (λ l. cond (is_within w s c.args.start) (merge w.aggregates (slices_total w s l) one) (slices_total w s l)) c.as_mut_slice.ensures.value

pub returns-in-Some-clause-kinds : goal.returns-in-Some-clause-kinds
returns-in-Some-clause-kinds c =
    let kinds_of = IsSliceOf c.args.w.now in
    let old : List Slice = c.as_mut_slice.result.now in
    let i = c.in-Some.place in
    let was : Slice = c.index-as_mut_slice-place.result in
    let x : Slice = record { start = (slice_index_or old i was).start; acc = c.add.new.self } in
    let items = c.as_mut_slice.ensures.value ∙ sym c.as_slice.ensures.value in
    let inside = subst (λ l. i < length l) (sym items) c.in-Some.ensures.there.0 in
    let kinds : All kinds_of old = subst (All kinds_of) (sym c.as_mut_slice.ensures.value) c.requires.kinds in
    subst (All kinds_of) (sym (with_items_is c.args.slices.now (slice_set old i x) (length-set old i x ∙ c.as_mut_slice.ensures.len)))
    (All-set kinds_of old i x (c.add.ensures.kinds ∙ kinds i was inside) kinds)
