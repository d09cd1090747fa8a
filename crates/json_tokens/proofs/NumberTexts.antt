-- What the text of a number says.
use Rattle.std.proofs.Common.{◌≡◌, ℕ, ℤ, List, ◌∷◌, Option, Some, None, option_map, option_and_then, ap, ◌∙◌}
use Rattle.json.specs.Token.{Token}
use Rattle.json.proofs.Grammar.{value_is}
use Rattle.serde_json.specs.Data.{Num, number}
use Rattle.serde_json.specs.Read.{of_json, converted, number_of}
use Rattle.serde_json.specs.Find.{as_i64}
use Rattle.json_parts.specs.Parts.{whole}
use Rattle.json_tokens.specs.Ahead.{part}

by_number : (o : Option Num) (ts : List Token) (z : ℤ) → option_and_then as_i64 o ≡ Some z → converted whole (option_map (λ b. (b, ts)) (option_map number o)) ≡ Some (z, ts)
by_number None ts z e = absurd (cc)
by_number (Some n) ts z e = ap (option_map (λ b. (b, ts))) e

pub number_said : (depth : ℕ) (s : List ℕ) (ts : List Token) (z : ℤ) → option_and_then as_i64 (number_of s) ≡ Some z → part whole depth (Token.number s ∷ ts) ≡ Some (z, ts)
number_said depth s ts z e = ap (λ o. converted whole (converted of_json o)) (value_is depth (Token.number s ∷ ts)) ∙ by_number (number_of s) ts z e
