use Rattle.std.proofs.Common.{◌<ℤ◌, ℤ, ap, subst, ◌∙◌, rules, FitsSigned, to_z, of_z}
use Rattle.std.specs.Int.{w64}
use Rattle.std.specs.List.{All}
use Rattle.std.proofs.lemmas.Int.{to_z-of_z}
use Rattle.std.proofs.lemmas.List.{take_all}
use Rattle.window_slices.specs.declared.key_slices.Slice.{Slice}
use Rattle.window_slices.specs.KeySlices.{has_start, IsFrom}
use Rattle.window_slices.proofs.KeyStarts.{has_item, found_there, found_nearest, from_kept}
use Rattle.window_slices.proofs.key_slices.start_above.Goals as goal

pub loop-slice-preserved : goal.loop-slice-preserved
loop-slice-preserved c =
    let start : ℤ = to_z w64 (of_z w64 c.args.start) in
    let xs = c.args.slices.now in
    let i = c.loop-slice.slice-index in
    let x = c.slice-item.result in
    let old = c.loop-slice.found in
    let new = c.above-found.result in
    let fits : FitsSigned w64 x.start = search rules in
    let held = to_z-of_z w64 x.start fits in
    let has = ap (λ (z : ℤ). has_start z xs) held ∙ ap (λ (y : Slice). has_start y.start xs) c.slice-item.is ∙ has_item xs i x c.loop-slice-test.true in
    let reached = subst (λ (z : ℤ). start <ℤ z → IsFrom new z) held c.above-found.ensures.reached in
    record {
      there = found_there (λ (z : ℤ). start <ℤ z) (to_z w64 (of_z w64 x.start)) xs old new has c.above-found.ensures.one c.loop-slice.invariant.there;
      least = found_nearest (λ (z : ℤ). start <ℤ z) IsFrom xs i x old new c.loop-slice-test.true c.slice-item.is (from_kept old new c.above-found.ensures.kept) reached c.loop-slice.invariant.least;
    }

pub returns-clause-least : goal.returns-clause-least
returns-clause-least c =
    subst (λ (s : ℤ). All (λ (y : Slice). s <ℤ y.start → IsFrom c.loop-slice.found y.start) c.args.slices.now) (to_z-of_z w64 c.args.start c.ranges.start)
    (subst (All (λ (y : Slice). to_z w64 (of_z w64 c.args.start) <ℤ y.start → IsFrom c.loop-slice.found y.start)) (take_all c.loop-slice.slice-index c.args.slices.now c.loop-slice-test.false)
    c.loop-slice.invariant.least)
