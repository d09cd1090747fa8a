-- What tells records apart, text by text.
use Rattle.std.proofs.Common.{◌≡◌, ◌<◌, ◌^◌, ◌++◌, ◌∷◌, [], ◌∙◌, ℕ, suc, List, ap, arith, drop, length, map, refl, sym, take}
use Rattle.std.specs.Int.{bytes_low_first, from_le_bytes, w64}
use Rattle.std.specs.List.{flat_map}
use Rattle.std.proofs.Math.Seq.{take-append_seam}
use Rattle.std.proofs.lemmas.List.{append_cancel_left}
use Rattle.std.proofs.lemmas.Nat.{from_le_bytes-to_le_bytes_8}
use Rattle.imports.specs.Rows.{column_text}
use Rattle.known_records.specs.Known.{field_text}
use Rattle.import_copies.specs.Told.{AreShort, KeysTell}

same_size : (m n : ℕ) → m < 2 ^ 64 → n < 2 ^ 64 → bytes_low_first 0 8 m ≡ bytes_low_first 0 8 n → m ≡ n
same_size m n small other is = sym (from_le_bytes-to_le_bytes_8 m small) ∙ ap (from_le_bytes w64) is ∙ from_le_bytes-to_le_bytes_8 n other

-- the first of texts that stand behind their lengths
same_first : (x y xs ys : List ℕ) → length x < 2 ^ 64 → length y < 2 ^ 64 → field_text x ++ xs ≡ field_text y ++ ys → (x ≡ y) × (xs ≡ ys)
same_first x y xs ys small other is =
    let sizes : bytes_low_first 0 8 (length x) ≡ bytes_low_first 0 8 (length y) = ap (take 8) is in
    let size = same_size (length x) (length y) small other sizes in
    let rest : x ++ xs ≡ y ++ ys = ap (drop 8) is in
    let first : x ≡ y = sym (take-append_seam x xs) ∙ ap (take (length x)) rest ∙ ap (λ count. take count (y ++ ys)) size ∙ take-append_seam y ys in
    (first, append_cancel_left y xs ys (ap (λ text. text ++ xs) (sym first) ∙ rest))

behind : (text : List ℕ) (texts : List (List ℕ)) → AreShort (text ∷ texts) → AreShort texts
behind text texts all k d within = all (suc k) d (omega arith)

same_texts : (f g : ℕ → List ℕ) (columns : List ℕ) → AreShort (map f columns) → AreShort (map g columns) → flat_map (λ column. field_text (f column)) columns ≡ flat_map (λ column. field_text (g column)) columns → map f columns ≡ map g columns
same_texts f g [] all others is = refl
same_texts f g (column ∷ columns) all others is =
    let parts = same_first (f column) (g column) _ _ (all 0 [] (omega arith)) (others 0 [] (omega arith)) is in
    let rest = same_texts f g columns (behind (f column) (map f columns) all) (behind (g column) (map g columns) others) parts.1 in
    ap (λ text. text ∷ map f columns) parts.0 ∙ ap (λ texts. g column ∷ texts) rest

of_texts : (f : ℕ → List ℕ) (columns : List ℕ) → flat_map (λ column. field_text (f column)) columns ≡ flat_map field_text (map f columns)
of_texts f [] = refl
of_texts f (column ∷ columns) = ap (λ key. field_text (f column) ++ key) (of_texts f columns)

pub keys_tell : KeysTell
keys_tell columns places others fields more short other_short = (
  same_texts (column_text places fields) (column_text others more) columns short other_short,
  λ same. of_texts (column_text places fields) columns ∙ ap (flat_map field_text) same ∙ sym (of_texts (column_text others more) columns),
)
