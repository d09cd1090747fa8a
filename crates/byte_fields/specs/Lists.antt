-- Lists with their count before them.
use Rattle.std.specs.Prelude.{ℕ, zero, suc, Bool, true, false, ◌&&◌, List, [], ◌∷◌, ◌++◌, length, ◌-◌, slice_get, Option, Some, None, Ok}
use Rattle.std.specs.List.{flat_map, list_all}
use Rattle.byte_fields.specs.Format.{◌>>=◌, Format, raw, before, seen_as}

abbrev pub is_empty : {X : Type 0} → List X → Bool
is_empty [] = true
is_empty (x ∷ xs) = false

abbrev pub nothing : {X : Type 0} → Format (List X)
nothing = record { spell = λ _. []; fits = is_empty; read = λ bytes. Ok ([], bytes) }

abbrev pub spell_both : {X : Type 0} → Format (X × List X) → List X → List ℕ
spell_both f [] = []
spell_both f (x ∷ xs) = f.spell (x, xs)

abbrev pub fit_both : {X : Type 0} → Format (X × List X) → List X → Bool
fit_both f [] = false
fit_both f (x ∷ xs) = f.fits (x, xs)

-- a first item, and the others
abbrev pub as_list : {X : Type 0} → Format (X × List X) → Format (List X)
as_list f = record { spell = spell_both f; fits = fit_both f; read = λ bytes. f.read bytes >>= λ x. Ok (x.0.0 ∷ x.0.1, x.1) }

-- so many items, each of which may depend on the one before
unfoldable pub chain : {X : Type 0} → (Option X → Format X) → Option X → ℕ → Format (List X)
chain item last zero = nothing
chain item last (suc n) = as_list (before (item last) (λ x. chain item (Some x) n))

-- the last item, if there is one
abbrev pub last_of : {X : Type 0} → List X → Option X
last_of xs = slice_get xs (length xs - 1)

abbrev pub with_length : {X : Type 0} → List X → ℕ × List X
with_length xs = (length xs, xs)

abbrev pub the_list : {X : Type 0} → ℕ × List X → List X
the_list x = x.1

-- a count, and so many items
unfoldable pub counted : {X : Type 0} → Format ℕ → (Option X → Format X) → Format (List X)
counted {X} count item =
    let both : Format (ℕ × List X) = before count (λ n. chain item None n) in
    seen_as the_list with_length (λ xs. both.fits (with_length xs)) both

-- the same of items that do not depend on one another
abbrev pub listed : {X : Type 0} → Format ℕ → Format X → Format (List X)
listed count item = record {
  spell = λ xs. count.spell (length xs) ++ flat_map item.spell xs;
  fits = λ xs. count.fits (length xs) && list_all item.fits xs;
  read = (counted count (λ _. item)).read;
}

-- a length, and so many bytes
unfoldable pub sized : Format ℕ → Format (List ℕ)
sized count = seen_as the_list with_length (λ xs. (before count raw).fits (with_length xs)) (before count raw)
