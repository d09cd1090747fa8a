-- Cells of a row, one after the other.
use Rattle.std.proofs.Common.{◌≡◌, ℕ, ℤ, ◌+◌, List, [], ◌∷◌, ◌++◌, take, slice_get, Some, sym, subst}
use Rattle.plain_data.proofs.Facts.{taken_more}
use Rattle.row_tables.specs.Cells.{Shows}
use Rattle.row_tables.specs.declared.kind.CellKind.{CellKind}
use Rattle.row_export.specs.Shown.{ShowsRow}

one_more : (kinds : List CellKind) (names : List (List ℕ)) (numbers : List ℤ) (texts : List (List ℕ)) (kind : CellKind) (number : ℤ) (text : List ℕ) → ShowsRow kinds names numbers texts → Shows kind names number text
    → ShowsRow (kinds ++ kind ∷ []) names (numbers ++ number ∷ []) (texts ++ text ∷ [])
one_more [] names [] [] kind number text h s = (s, tt)
one_more [] names [] (t ∷ texts) kind number text h s = absurd h
one_more [] names (n ∷ numbers) texts kind number text h s = absurd h
one_more (k ∷ kinds) names [] texts kind number text h s = absurd h
one_more (k ∷ kinds) names (n ∷ numbers) [] kind number text h s = absurd h
one_more (k ∷ kinds) names (n ∷ numbers) (t ∷ texts) kind number text h s = (h.0, one_more kinds names numbers texts kind number text h.1 s)

pub row_more : (kinds : List CellKind) (names : List (List ℕ)) (numbers : List ℤ) (texts : List (List ℕ)) (i : ℕ) (kind : CellKind) (number : ℤ) (text : List ℕ) → slice_get kinds i ≡ Some kind → slice_get numbers i ≡ Some number
    → ShowsRow (take i kinds) names (take i numbers) texts → Shows kind names number text → ShowsRow (take (i + 1) kinds) names (take (i + 1) numbers) (texts ++ text ∷ [])
row_more kinds names numbers texts i kind number text at_kind at_number h s =
    subst (λ ks. ShowsRow ks names (take (i + 1) numbers) (texts ++ text ∷ [])) (sym (taken_more kinds i kind at_kind))
    (subst (λ ns. ShowsRow (take i kinds ++ kind ∷ []) names ns (texts ++ text ∷ [])) (sym (taken_more numbers i number at_number)) (one_more (take i kinds) names (take i numbers) texts kind number text h s))
