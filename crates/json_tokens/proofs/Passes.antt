-- Each step over a text leaves fewer lexemes.
use Rattle.std.proofs.Common.{◌≡◌, ◌<◌, ℕ, ℤ, suc, List, ◌∷◌, length, refl, ap, ◌∙◌, arith}
use Rattle.json.specs.Lex.{operator, class, between, lex_byte, lex}
use Rattle.json_tokens.specs.Lexemes.{BeginsWhole}

pub mark_over : (c : ℕ) (t r : List ℕ) → class c ≡ operator → t ≡ c ∷ r → length (lex between t) ≡ suc (length (lex between r))
unfolding lex
mark_over c t r h e = ap (λ u. length (lex between u)) e ∙ ap (λ k. length (lex_byte between k c r (λ n. lex n r))) h

pub whole_over : (t : List ℕ) (n : ℤ) (r : List ℕ) → BeginsWhole t n r → length (lex between r) < length (lex between t)
whole_over t n r w = omega (arith, ap length w.1)

-- from behind a value to behind its comma, or behind the bracket that closes the list
pub comma_over : (r s u v : List ℕ) → lex between s ≡ lex between r → s ≡ 44 ∷ u → lex between v ≡ lex between u → length (lex between v) < length (lex between r)
comma_over r s u v e comma f = omega (arith, ap length e, mark_over 44 s u refl comma, ap length f)

pub bracket_over : (r s u : List ℕ) → lex between s ≡ lex between r → s ≡ 93 ∷ u → length (lex between u) < length (lex between r)
bracket_over r s u e close = omega (arith, ap length e, mark_over 93 s u refl close)
