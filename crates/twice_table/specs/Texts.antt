-- Texts that were before, each once.
use Rattle.std.specs.Prelude.{◌≡◌, ℕ, ◌%◌, ◌^◌, ◌<◌, false, List, [], ◌∷◌, ◌++◌, length, slice_index_or, bytes_eq, if◌then◌else◌}
use Rattle.std.specs.List.{list_any}
use Rattle.std.specs.Hash.DefaultHasher.{write, finish}
use Rattle.std.specs.RandomState.{initial_hasher}
use Rattle.std.specs.declared.random_state.RandomState.{RandomState}

-- the texts with one that may be there already
abbrev pub with_text : List (List ℕ) → List ℕ → List (List ℕ)
with_text texts text = if list_any (bytes_eq text) texts then texts else texts ++ text ∷ []

-- the code of a text: of its hash, by SipHash from the numbers of a state, what is left where it is divided by 2^32
abbrev pub text_code : RandomState → List ℕ → ℕ
text_code state text = finish (write (initial_hasher state) text) % 2 ^ 32

-- no text is one before it
abbrev pub AreOnce : List (List ℕ) → Type 0
AreOnce texts = (i j : ℕ) → i < j → j < length texts → bytes_eq (slice_index_or texts j []) (slice_index_or texts i []) ≡ false
