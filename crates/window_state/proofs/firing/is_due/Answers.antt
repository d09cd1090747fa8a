use Rattle.std.proofs.Common.{ℤ, pos, ◌+ℤ◌, ◌-ℤ◌, rules, arith, refl, FitsSigned}
use Rattle.std.specs.Int.{w64, w128}
use Rattle.std.proofs.lemmas.Int.{to_z-of_z, ints}
use Rattle.window_slices.proofs.Facts.{wider}
use Rattle.window_state.proofs.firing.is_due.Goals as goal

sum_fits : (a b : ℤ) → FitsSigned w64 a → FitsSigned w64 b → FitsSigned w128 (a +ℤ b)
sum_fits a b h k = grind (arith, ints)

end_fits : (a b : ℤ) → FitsSigned w64 a → FitsSigned w64 b → FitsSigned w128 (a +ℤ b -ℤ pos 1)
end_fits a b h k = grind (arith, ints)

pub returns : goal.returns
returns c =
    let start : FitsSigned w64 c.args.start = c.ranges.start in
    let size : FitsSigned w64 c.args.w.now.size = search rules in
    let watermark : FitsSigned w64 c.args.watermark = c.ranges.watermark in
    let wide_start : FitsSigned w128 c.args.start = wider c.args.start start in
    let wide_size : FitsSigned w128 c.args.w.now.size = wider c.args.w.now.size size in
    let wide_watermark : FitsSigned w128 c.args.watermark = wider c.args.watermark watermark in
    let sum : FitsSigned w128 (c.args.start +ℤ c.args.w.now.size) = sum_fits c.args.start c.args.w.now.size start size in
    let end_ : FitsSigned w128 (c.args.start +ℤ c.args.w.now.size -ℤ pos 1) = end_fits c.args.start c.args.w.now.size start size in
    simp to_z-of_z refl
