-- Tokens that are read one after another.
use Rattle.std.proofs.Common.{◌≡◌, ◌≤◌, ℕ, List, [], ◌∷◌, ◌++◌, map, All, append_assoc, ap, ◌∙◌, sym}
use Rattle.std.proofs.lemmas.List.{map-append}
use Rattle.std.proofs.lemmas.List.Elements.{All-push}
use Rattle.json.specs.Token.{Token}
use Rattle.json.specs.Reads.{token_of}
use Rattle.text_places.specs.declared.spot.Spot.{Spot}

abbrev pub bare : Spot → Token
bare s = token_of s.token

-- one token more is read
pub read_on : (xs ys : List Spot) (x : Spot) (ts us all : List Token) → map bare xs ++ ts ≡ all → ts ≡ bare x ∷ us → ys ≡ xs ++ x ∷ [] → map bare ys ++ us ≡ all
read_on xs ys x ts us all h e pushed =
    ap (λ zs. map bare zs ++ us) pushed ∙ ap (λ zs. zs ++ us) (map-append bare xs (x ∷ [])) ∙ append_assoc (map bare xs) (bare x ∷ []) us ∙ ap (λ zs. map bare xs ++ zs) (sym e) ∙ h

-- it stands in the text
pub inside_on : (n : ℕ) (xs ys : List Spot) (x : Spot) → All (λ s. s.offset ≤ n) xs → x.offset ≤ n → ys ≡ xs ++ x ∷ [] → All (λ s. s.offset ≤ n) ys
inside_on n xs ys x h here pushed = rw pushed (All-push (λ s. s.offset ≤ n) xs x h here)
