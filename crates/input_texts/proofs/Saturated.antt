-- A watermark behind a time that is too early for 64 bits moves nothing.
use Rattle.std.proofs.Common.{◌≡◌, ℤ, pos, ◌+ℤ◌, ◌-ℤ◌, ◌≤ℤ◌, FitsSigned, w64, to_z, of_z, to_z-of_z, sym, ap, ◌∙◌, arith}
use Rattle.std.proofs.lemmas.Int.{ints}
use Rattle.std.specs.Int.{int_max, saturate_signed}
use Rattle.plan_model.specs.declared.limits.TheConstants.{GREATEST_BOUND}

pub behind_any : (w t b : ℤ) → FitsSigned w64 w → FitsSigned w64 t → pos 0 ≤ℤ b → int_max w (saturate_signed w64 (t -ℤ (b +ℤ pos 1))) ≡ int_max w (t -ℤ b -ℤ pos 1)
behind_any w t b fits timely above = grind (arith, ints, fits, timely, above)

-- the same of what 64 bits keep
pub behind_kept : (w t b p s m : ℤ) → FitsSigned w64 w → FitsSigned w64 t → FitsSigned w64 b → FitsSigned w64 p → FitsSigned w64 s → FitsSigned w64 m → pos 0 ≤ℤ b
    → p ≡ to_z w64 (of_z w64 b) +ℤ pos 1 → s ≡ saturate_signed w64 (to_z w64 (of_z w64 t) -ℤ to_z w64 (of_z w64 p)) → m ≡ int_max (to_z w64 (of_z w64 w)) (to_z w64 (of_z w64 s))
    → to_z w64 (of_z w64 m) ≡ int_max w (t -ℤ b -ℤ pos 1)
behind_kept w t b p s m fw ft fb fp fs fm above next near most =
    let kept = λ (z : ℤ) (h : FitsSigned w64 z). to_z-of_z {w = w64} {z = z} h in
    kept m fm ∙ most ∙ (λ o. int_max (kept w fw o) (kept s fs o)) ∙ ap (int_max w) (near ∙ (λ o. saturate_signed w64 (kept t ft o -ℤ kept p fp o)) ∙ ap (λ n. saturate_signed w64 (t -ℤ n)) (next ∙ ap (λ n. n +ℤ pos 1) (kept b fb)))
    ∙ behind_any w t b fw ft above

pub next_fits : (b : ℤ) → FitsSigned w64 b → pos 0 ≤ℤ b → b ≤ℤ GREATEST_BOUND → FitsSigned w64 (to_z w64 (of_z w64 b) +ℤ pos 1)
next_fits b fits above below = rw (to_z-of_z {w = w64} {z = b} fits) (grind (arith, ints, fits, above, below))
