-- Texts of numbers are ASCII.
use Rattle.std.proofs.Common.{ℕ, ℤ, ◌<◌, ◌∷◌, FitsSigned}
use Rattle.std.specs.Fmt.{signed_decimal}
use Rattle.std.specs.Int.{w64}
use Rattle.std.specs.Str.{IsAscii}
use Rattle.std.proofs.lemmas.Str.Ascii.{IsAscii-cons}
use Rattle.itoa.proofs.Decimal.{IsAscii-signed_decimal}

pub ascii_behind : (b : ℕ) (z : ℤ) → b < 128 → FitsSigned w64 z → IsAscii (b ∷ signed_decimal z)
ascii_behind b z low h = IsAscii-cons b _ low (IsAscii-signed_decimal z h)
