-- Numbers of 64 bits as numbers of 128.
use Rattle.std.proofs.Common.{◌≡◌, ℤ, ap, ◌∙◌, arith, FitsSigned, to_z, of_z}
use Rattle.std.specs.Int.{w64, w128}
use Rattle.std.proofs.lemmas.Int.{ints, to_z-of_z}

pub wider : (z : ℤ) → FitsSigned w64 z → FitsSigned w128 z
wider z h = grind (arith, ints)

pub widened : (z : ℤ) → FitsSigned w64 z → to_z w128 (of_z w128 (to_z w64 (of_z w64 z))) ≡ z
widened z h = ap (λ (y : ℤ). to_z w128 (of_z w128 y)) (to_z-of_z w64 z h) ∙ to_z-of_z w128 z (wider z h)
