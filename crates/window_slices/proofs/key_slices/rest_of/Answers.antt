use Rattle.std.proofs.Common.{◌≡◌, ℤ, pos, negsuc, ◌<◌, ◌-ℤ◌, ◌≤ℤ◌, arith, refl, subst, ◌∙◌, FitsSigned}
use Rattle.std.specs.Prelude.{unsigned_abs}
use Rattle.std.specs.Int.{w64, w128, int_rem_euclid, IsNonNegative}
use Rattle.std.proofs.lemmas.Int.{to_z-of_z, ints}
use Rattle.window_slices.proofs.Wide.{wider, widened}
use Rattle.window_slices.proofs.key_slices.rest_of.Goals as goal

less_fits : (a b : ℤ) → FitsSigned w64 a → FitsSigned w64 b → FitsSigned w128 (a -ℤ b)
less_fits a b h k = grind (arith, ints)

-- a rest is less than what it is a rest of
rest_fits : (r n : ℤ) → IsNonNegative r → unsigned_abs r < unsigned_abs n → pos 1 ≤ℤ n → FitsSigned w64 n → FitsSigned w64 r
rest_fits (pos r) (pos n) low high some fits = grind (arith, ints)
rest_fits (pos r) (negsuc n) low high some fits = grind (arith, ints)
rest_fits (negsuc r) n low high some fits = absurd low

pub returns-in-None-clause-value : goal.returns-in-None-clause-value
returns-in-None-clause-value c =
    let x = c.args.number in
    let offset = c.args.offset in
    let step = c.args.step in
    let rest = c.rem_euclid-in-None.result in
    let number : FitsSigned w64 x = c.ranges.number in
    let off : FitsSigned w64 offset = c.ranges.offset in
    let by : FitsSigned w64 step = c.ranges.step in
    let wide_number : FitsSigned w128 x = wider x number in
    let wide_off : FitsSigned w128 offset = wider offset off in
    let wide_by : FitsSigned w128 step = wider step by in
    let less : FitsSigned w128 (x -ℤ offset) = less_fits x offset number off in
    let is : rest ≡ int_rem_euclid (x -ℤ offset) step = c.rem_euclid-in-None.ensures.value ∙ simp to_z-of_z refl in
    let high = subst (λ (n : ℤ). unsigned_abs rest < unsigned_abs n) (widened step by) c.rem_euclid-in-None.ensures.upper_bound in
    let fits : FitsSigned w64 rest = rest_fits rest step c.rem_euclid-in-None.ensures.lower_bound high c.requires by in
    let wide_fits : FitsSigned w128 rest = wider rest fits in
    simp to_z-of_z is
