use Rattle.std.proofs.Common.{◌≡◌, ℤ, ◌+◌, true, rules, sym, ap, subst, ◌∙◌, FitsSigned, to_z, of_z}
use Rattle.std.specs.Int.{w64}
use Rattle.std.specs.Option.{option_map}
use Rattle.std.proofs.lemmas.Int.{to_z-of_z}
use Rattle.plan_model.specs.Windows.{is_within}
use Rattle.plan_model.specs.Aggregates.{merge}
use Rattle.window_slices.specs.KeySlices.{IsCounted, acc_with, slices_total, total_of}
use Rattle.window_slices.proofs.SliceTotals.{IsSoFar, same_kinds, few_in, so_far_merged, so_far_first, so_far_out, acc_of_all}
use Rattle.window_slices.proofs.key_slices.merge_slices.Goals as goal
use Rattle.window_slices.proofs.key_slices.merge_slices.Goals.{then-is_within+in-Some, then-is_within+in-None, else-is_within}

pub merge-requires-clause-few : goal.merge-requires-clause-few
merge-requires-clause-few c =
    let w = c.args.w.now in
    let held : ℤ = to_z w64 (of_z w64 c.args.start) in
    let x = c.slice-item.result in
    let few = subst (λ (s : ℤ). IsCounted (merge w.aggregates (total_of c.args.total.now) (slices_total w s c.args.slices.now))) (sym (to_z-of_z w64 c.args.start c.ranges.start)) c.requires.few in
    let fits : FitsSigned w64 x.start = search rules in
    let within : is_within w held x.start ≡ true = ap (is_within w held) (sym (to_z-of_z w64 x.start fits)) ∙ sym c.is_within.ensures ∙ c.if-is_within.true in
    few_in w held c.args.slices.now (total_of c.args.total.now) c.loop-slice.slice-index x c.loop-slice-test.true c.slice-item.is c.loop-slice.total c.in-Some.acc c.in-Some.is within c.loop-slice.invariant few

pub merge-requires-clause-same_kinds : goal.merge-requires-clause-same_kinds
merge-requires-clause-same_kinds c =
    let held : ℤ = to_z w64 (of_z w64 c.args.start) in
    same_kinds c.args.w.now held c.args.slices.now (total_of c.args.total.now) c.loop-slice.slice-index c.slice-item.result c.loop-slice-test.true c.slice-item.is c.loop-slice.total c.in-Some.acc c.in-Some.is
    c.loop-slice.invariant c.requires.kinds

pub loop-slice-preserved : goal.loop-slice-preserved
loop-slice-preserved c =
    let w = c.args.w.now in
    let held : ℤ = to_z w64 (of_z w64 c.args.start) in
    let xs = c.args.slices.now in
    let before = total_of c.args.total.now in
    let i = c.loop-slice.slice-index in
    let o = c.loop-slice.total in
    let x = c.slice-item.result in
    let low = c.loop-slice-test.true in
    let is = c.slice-item.is in
    let so_far = c.loop-slice.invariant in
    let fits : FitsSigned w64 x.start = search rules in
    let tested : is_within w held x.start ≡ c.is_within.result = ap (is_within w held) (sym (to_z-of_z w64 x.start fits)) ∙ sym c.is_within.ensures in
    elim c.if-is_within.branch [
      | then-is_within+in-Some b ↦
          let total = b.merge.ensures in
          subst (IsSoFar w held xs before (i + 1)) (sym b.total-is)
          (so_far_merged w held xs before i x low is o b.in-Some.acc b.merge.new.self b.in-Some.is (tested ∙ b.if-is_within.true) total.kinds total.total so_far)
      | then-is_within+in-None b ↦
          subst (IsSoFar w held xs before (i + 1)) (sym b.total-is) (so_far_first w held xs before i x low is o b.in-None.is (tested ∙ b.if-is_within.true) c.requires.kinds so_far)
      | else-is_within b ↦ subst (IsSoFar w held xs before (i + 1)) (sym b.total-is) (so_far_out w held xs before i x low is o (tested ∙ b.if-is_within.false) so_far)
    ]

pub returns : goal.returns
returns c =
    let w = c.args.w.now in
    let held : ℤ = to_z w64 (of_z w64 c.args.start) in
    let xs = c.args.slices.now in
    let before = total_of c.args.total.now in
    acc_of_all w held xs before c.loop-slice.slice-index c.loop-slice.total c.loop-slice-test.false c.loop-slice.invariant
    ∙ ap (λ (s : ℤ). option_map (acc_with w) (merge w.aggregates before (slices_total w s xs))) (to_z-of_z w64 c.args.start c.ranges.start)
