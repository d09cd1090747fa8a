-- A byte order mark in front of a text.
use Rattle.std.proofs.Common.{◌≡◌, ◌≢◌, Bool, false, ℕ, List, [], ◌∷◌, ◌++◌, refl, arith}
use Rattle.csv.specs.Reading.{strip_bom, is_bom}

pub with_mark : (text rest : List ℕ) → text ≡ (239 ∷ 187 ∷ 191 ∷ []) ++ rest → strip_bom text ≡ rest
unfolding strip_bom
with_mark text rest is = rw is refl

mark_of : (a b c : ℕ) (rest : List ℕ) (is_mark : Bool) → is_bom a b c ≡ is_mark
    → ((more : List ℕ) → a ∷ b ∷ c ∷ rest ≢ (239 ∷ 187 ∷ 191 ∷ []) ++ more) → is_mark ≡ false
mark_of a b c rest is_mark is none = grind (arith, none rest)

pub without_mark : (text : List ℕ) → ((rest : List ℕ) → text ≢ (239 ∷ 187 ∷ 191 ∷ []) ++ rest) → strip_bom text ≡ text
unfolding strip_bom
without_mark [] none = refl
without_mark (a ∷ []) none = refl
without_mark (a ∷ b ∷ []) none = refl
without_mark (a ∷ b ∷ c ∷ rest) none =
    let other : is_bom a b c ≡ false = mark_of a b c rest _ refl none in
    rw other refl
