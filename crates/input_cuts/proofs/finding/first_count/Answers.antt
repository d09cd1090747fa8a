use Rattle.std.proofs.Common.{◌<◌, ℕ, ◌≤ℤ◌, ◌<ℤ◌, subst, to_z, of_z, to_z-of_z, w64, arith}
use Rattle.std.proofs.lemmas.Int.{ints}
use Rattle.stream_model.specs.Watermarks.{partition_watermark}
use Rattle.plan_model.proofs.Facts.{le_from_test}
use Rattle.input_cuts.proofs.First.{count_at, count_past}
use Rattle.input_cuts.proofs.finding.first_count.Goals as goal

pub returns-then-before-watermark : goal.returns-then-before-watermark
returns-then-before-watermark c =
    let entries = c.args.entries.now in
    let place = c.loop-place.place in
    let same = to_z-of_z {w = w64} {z = c.args.watermark} c.ranges.watermark in
    let here = le_from_test (to_z w64 (of_z w64 c.args.watermark)) (to_z w64 c.loop-place.before-bits) c.if-before-watermark.true in
    let bits = c.loop-place.before-is in
    let is = c.loop-place.invariant.before c.loop-place-test.true in
    let reached : c.args.watermark ≤ℤ partition_watermark entries place = omega (arith, ints, here, same, bits, is) in
    let first = λ (m : ℕ) (l : m < place). subst (λ w. partition_watermark entries m <ℤ w) same (c.loop-place.invariant.first m l) in
    count_at c.args.watermark entries place c.loop-place-test.true reached first

pub returns : goal.returns
returns c =
    let entries = c.args.entries.now in
    let past = c.loop-place-test.false in
    let same = to_z-of_z {w = w64} {z = c.args.watermark} c.ranges.watermark in
    count_past c.args.watermark entries (λ m l. subst (λ w. partition_watermark entries m <ℤ w) same (c.loop-place.invariant.first m (omega (arith, l, past))))
