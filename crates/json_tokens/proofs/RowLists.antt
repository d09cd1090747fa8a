-- Rows, and their numbers one after another.
use Rattle.std.proofs.Common.{◌≡◌, ◌==◌, ℕ, ℤ, true, List, [], ◌∷◌, ◌++◌, length, Some, refl, sym, ap, ◌∙◌, append_assoc, append-nil}
use Rattle.std.proofs.lemmas.Bool.{eq-eqb}
use Rattle.json.specs.Token.{Token}
use Rattle.json.specs.Json.{value}
use Rattle.serde_json.specs.Read.{converted, of_json}
use Rattle.json_parts.specs.Parts.{whole, list_text}
use Rattle.json_tokens.specs.Ahead.{part}
use Rattle.json_tokens.specs.Rows.{of_width, row_text, joined}
use Rattle.json_tokens.proofs.Converted.{then_said}

pub joined_one : (rows : List (List ℤ)) (row : List ℤ) → joined (rows ++ row ∷ []) ≡ joined rows ++ row
joined_one [] row = append-nil row
joined_one (x ∷ rows) row = ap (λ (xs : List ℤ). x ++ xs) (joined_one rows row) ∙ sym (append_assoc x (joined rows) row)

self_equal : (n : ℕ) → (n == n) ≡ true
self_equal n = eq-eqb n n refl

pub row_said : (width depth : ℕ) (ts r : List Token) (row : List ℤ) → length row ≡ width → part (list_text whole) depth ts ≡ Some (row, r) → part (row_text width) depth ts ≡ Some (row, r)
unfolding row_text
row_said width depth ts r row e h =
    let wide : of_width width row ≡ Some row = rw (e, self_equal width) refl in
    then_said (list_text whole) (of_width width) (converted of_json (value depth ts)) row row r h wide
