-- What decoding a savepoint, encoding it and reading a key group of it count.
use Rattle.std.specs.Prelude.{◌≡◌, ℕ, ◌<◌, ◌-◌, ◌^◌, List, Ok, length, min}
use Rattle.std.specs.List.{sum_by}
use Rattle.savepoint_codec.specs.declared.savepoint.Contents.{Contents}
use Rattle.savepoint_codec.specs.declared.savepoint.SavedGroup.{SavedGroup}
use Rattle.savepoint_codec.specs.Layout.{IsSavepoint}
use Rattle.savepoint_index.specs.Answer.{savepoint_of_bytes, entries_of_group}
use Rattle.savepoint_index.specs.Layout.{savepoint_bytes}

-- how many entries key groups have together, as far as 64 bits can tell
abbrev pub entry_count : List SavedGroup → ℕ
entry_count groups = min (2 ^ 64 - 1) (sum_by (λ g. length g.entries.entries) groups)

-- where the bytes were decoded at all, they are a savepoint with so many entries
abbrev pub IsDecoded : ℕ → List ℕ → ℕ → Type 0
IsDecoded times bytes n = 0 < times → (s : Contents) × (savepoint_of_bytes bytes ≡ Ok s) × (n ≡ entry_count s.groups)

-- and encoded they have so many bytes
abbrev pub IsEncoded : ℕ → List ℕ → ℕ → Type 0
IsEncoded times bytes n = 0 < times → (s : Contents) × (savepoint_of_bytes bytes ≡ Ok s) × (n ≡ length (savepoint_bytes s))

-- where they spell a savepoint with an index, the key group has so many entries
abbrev pub IsGrouped : ℕ → List ℕ → ℕ → ℕ → Type 0
IsGrouped times bytes group n = 0 < times → (s : Contents) → IsSavepoint s → bytes ≡ savepoint_bytes s → n ≡ length (entries_of_group group s).entries
