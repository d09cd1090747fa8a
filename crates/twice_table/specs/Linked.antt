-- Codes of texts, and the chains by which they are found.
use Rattle.std.specs.Prelude.{◌≡◌, ◌≢◌, ℕ, ◌-◌, ◌%◌, ◌^◌, ◌<◌, ◌≤◌, List, length, map, slice_index_or}
use Rattle.twice_table.specs.declared.chains.Link.{Link}

-- of the first so many codes the last of a chain stands at a place, counted from 1, or there is none and that is 0. A
-- code is of the chain that is left where it is divided by how many there are
abbrev pub IsLast : ℕ → ℕ → List ℕ → ℕ → ℕ → Type 0
IsLast chains chain codes count place = (place ≤ count)
    × ((i : ℕ) → place ≤ i → i < count → slice_index_or codes i 0 % chains ≢ chain)
    × (0 < place → slice_index_or codes (place - 1) 0 % chains ≡ chain)

abbrev pub codes_of : List Link → List ℕ
codes_of links = map (λ link. link.code) links

-- so it is with the lasts of all chains behind so many codes
abbrev pub AreLasts : List ℕ → List ℕ → ℕ → Type 0
AreLasts codes lasts count = (chain : ℕ) → chain < length lasts → IsLast (length lasts) chain codes count (slice_index_or lasts chain 0)

-- and with those before each of so many codes
abbrev pub AreBefores : ℕ → List Link → ℕ → Type 0
AreBefores chains links count = (i : ℕ) → i < count
    → IsLast chains (slice_index_or (codes_of links) i 0 % chains) (codes_of links) i (slice_index_or links i (record { code = 0; before = 0 })).before

-- codes are linked in chains, of which there are no fewer
abbrev pub AreLinked : List Link → List ℕ → Type 0
AreLinked links lasts = (length links ≤ length lasts) × (length links < 2 ^ 32) × AreLasts (codes_of links) lasts (length links) × AreBefores (length lasts) links (length links)
