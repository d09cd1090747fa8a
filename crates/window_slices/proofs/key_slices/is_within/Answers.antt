use Rattle.std.proofs.Common.{◌≡◌, ℤ, ◌+ℤ◌, ◌≤ℤ◌, ◌&&◌, rules, arith, FitsSigned}
use Rattle.std.specs.Prelude.{int_le, int_lt}
use Rattle.std.specs.Int.{w64, w128}
use Rattle.std.proofs.lemmas.Int.{to_z-of_z, ints}
use Rattle.window_slices.proofs.Wide.{wider}
use Rattle.window_slices.proofs.key_slices.is_within.Goals as goal

sum_fits : (a b : ℤ) → FitsSigned w64 a → FitsSigned w64 b → FitsSigned w128 (a +ℤ b)
sum_fits a b h k = grind (arith, ints)

not_before : (s t e : ℤ) → s ≤ℤ t → int_lt t e ≡ (int_le s t && int_lt t e)
not_before s t e h = grind (arith, ints)

pub returns-then-start-time : goal.returns-then-start-time
returns-then-start-time c =
    let s = c.args.start in
    let t = c.args.time in
    let size = c.args.w.now.size in
    let start : FitsSigned w64 s = c.ranges.start in
    let time : FitsSigned w64 t = c.ranges.time in
    let long : FitsSigned w64 size = search rules in
    let wide_start : FitsSigned w128 s = wider s start in
    let wide_time : FitsSigned w128 t = wider t time in
    let wide_size : FitsSigned w128 size = wider size long in
    let sum : FitsSigned w128 (s +ℤ size) = sum_fits s size start long in
    let from : s ≤ℤ t = search rules in
    simp to_z-of_z (not_before s t (s +ℤ size) from)
