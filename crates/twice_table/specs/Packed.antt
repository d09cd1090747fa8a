-- Texts behind one another.
use Rattle.std.specs.Prelude.{ℕ, zero, suc, Bool, not, nat_lt, ◌&&◌, List, [], ◌∷◌, slice_index_or}
use Rattle.std.specs.List.{slice_range}

-- the texts that end at places, where the first begins at one
abbrev pub cut : ℕ → List ℕ → List ℕ → List (List ℕ)
cut start [] bytes = []
cut start (end ∷ ends) bytes = slice_range bytes start end ∷ cut end ends bytes

-- each place is behind those before it or the same, and none is behind the end
abbrev pub are_ends : ℕ → List ℕ → ℕ → Bool
are_ends start [] all = not (nat_lt all start)
are_ends start (end ∷ ends) all = not (nat_lt end start) && are_ends end ends all

-- where the text at a place begins
abbrev pub start_of : ℕ → List ℕ → ℕ → ℕ
start_of start ends zero = start
start_of start ends (suc place) = slice_index_or ends place 0
