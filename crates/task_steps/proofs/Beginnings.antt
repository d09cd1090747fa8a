-- Inputs of a task that begins.
use Rattle.std.proofs.Common.{◌≡◌, ℕ, zero, suc, false, replicate, refl}
use Rattle.input_state.specs.declared.inputs.Shut.TheVariants.{Free}
use Rattle.input_state.specs.Inputs.{any_held}

-- free inputs are not held
pub none_held : (n : ℕ) → any_held (replicate n Free) ≡ false
none_held zero = refl
none_held (suc n) = none_held n
