-- Bytes that stand in a string of JSON as they are.
use Rattle.std.proofs.Common.{◌≡◌, ℕ, ◌≤◌, not, nat_eq, IsTrue, [], ◌∷◌, subst}
use Rattle.json.specs.Print.{escape_byte}
use Rattle.json.proofs.Printed.Strings.{escape_byte_plain}

pub plain_byte : (x : ℕ) → 32 ≤ x → (x ≡ 34 → ⊥) → IsTrue (not (nat_eq x 92)) → escape_byte x ≡ x ∷ []
plain_byte x low quote h = escape_byte_plain x quote (λ e. cc (subst (λ y. IsTrue (not (nat_eq y 92))) e h)) low
