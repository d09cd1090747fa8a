use Rattle.std.proofs.Common.{◌<ℤ◌, ℤ, ap, subst, ◌∙◌, rules, FitsSigned, to_z, of_z}
use Rattle.std.specs.Int.{w64}
use Rattle.std.specs.List.{All}
use Rattle.std.proofs.lemmas.Int.{to_z-of_z}
use Rattle.std.proofs.lemmas.List.{take_all}
use Rattle.window_slices.specs.declared.key_slices.Slice.{Slice}
use Rattle.window_slices.specs.KeySlices.{has_start, IsUpTo}
use Rattle.window_slices.proofs.KeyStarts.{has_item, found_there, found_nearest, up_to_kept}
use Rattle.window_slices.proofs.key_slices.start_below.Goals as goal

pub loop-slice-preserved : goal.loop-slice-preserved
loop-slice-preserved c =
    let start : ℤ = to_z w64 (of_z w64 c.args.start) in
    let xs = c.args.slices.now in
    let i = c.loop-slice.slice-index in
    let x = c.slice-item.result in
    let old = c.loop-slice.found in
    let new = c.below-found.result in
    let fits : FitsSigned w64 x.start = search rules in
    let held = to_z-of_z w64 x.start fits in
    let has = ap (λ (z : ℤ). has_start z xs) held ∙ ap (λ (y : Slice). has_start y.start xs) c.slice-item.is ∙ has_item xs i x c.loop-slice-test.true in
    let reached = subst (λ (z : ℤ). z <ℤ start → IsUpTo new z) held c.below-found.ensures.reached in
    record {
      there = found_there (λ (z : ℤ). z <ℤ start) (to_z w64 (of_z w64 x.start)) xs old new has c.below-found.ensures.one c.loop-slice.invariant.there;
      greatest = found_nearest (λ (z : ℤ). z <ℤ start) IsUpTo xs i x old new c.loop-slice-test.true c.slice-item.is (up_to_kept old new c.below-found.ensures.kept) reached c.loop-slice.invariant.greatest;
    }

pub returns-clause-greatest : goal.returns-clause-greatest
returns-clause-greatest c =
    subst (λ (s : ℤ). All (λ (y : Slice). y.start <ℤ s → IsUpTo c.loop-slice.found y.start) c.args.slices.now) (to_z-of_z w64 c.args.start c.ranges.start)
    (subst (All (λ (y : Slice). y.start <ℤ to_z w64 (of_z w64 c.args.start) → IsUpTo c.loop-slice.found y.start)) (take_all c.loop-slice.slice-index c.args.slices.now c.loop-slice-test.false)
    c.loop-slice.invariant.greatest)
