-- Bytes that JSON writes as they are.
use Rattle.std.proofs.Common.{◌≡◌, ◌<◌, ◌≤◌, ◌++◌, ℕ, zero, suc, Bool, true, false, not, List, [], ◌∷◌, refl, ap₂, arith}
use Rattle.std.proofs.lemmas.Bool.{and_parts, not-true, eqb-false, leb-true, ltb-true}
use Rattle.std.specs.List.{list_all}
use Rattle.std.specs.Str.{IsAscii}
use Rattle.json.specs.Print.{escape}
use Rattle.json.proofs.Printed.Strings.{escape_byte_plain}
use Rattle.receipts.specs.ReadBack.{is_plain}

pub record Plain (b : ℕ) : Type 0 where
  pub low : 32 ≤ b
  pub high : b < 127
  pub quote : b ≡ 34 → ⊥
  pub backslash : b ≡ 92 → ⊥

plain_parts : (b : ℕ) → is_plain b ≡ true → Plain b
plain_parts b e =
    let low = and_parts _ _ e in
    let high = and_parts _ _ low.1 in
    let others = and_parts _ _ high.1 in
    record { low = leb-true 32 b low.0; high = ltb-true b 127 high.0; quote = eqb-false b 34 (not-true _ others.0); backslash = eqb-false b 92 (not-true _ others.1) }

pub escape_plain : (s : List ℕ) → list_all is_plain s ≡ true → escape s ≡ s
escape_plain [] e = refl
escape_plain (b ∷ s) e =
    let parts = and_parts _ _ e in
    let is = plain_parts b parts.0 in
    ap₂ (λ (x y : List ℕ). x ++ y) (escape_byte_plain b is.quote is.backslash is.low) (escape_plain s parts.1)

pub ascii_plain : (s : List ℕ) → list_all is_plain s ≡ true → IsAscii s
ascii_plain [] e i = omega arith
ascii_plain (b ∷ s) e zero = let is = plain_parts b (and_parts _ _ e).0 in omega (arith, is.high)
ascii_plain (b ∷ s) e (suc i) = ascii_plain s (and_parts _ _ e).1 i
