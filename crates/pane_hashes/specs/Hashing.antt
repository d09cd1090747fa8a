-- The hash of panes by secret numbers: multiply, add, and take the upper half.
use Rattle.std.specs.Prelude.{ℕ, ◌+◌, ◌*◌, ◌/◌, ◌%◌, ◌^◌, List, fold}
use Rattle.pane_hashes.specs.declared.hashing.HashKeys.{HashKeys}
use Rattle.pane_hashes.specs.declared.hashing.PaneHasher.{PaneHasher}

-- the number that bytes are, the highest first, without what is above 64 bits
abbrev pub number_of : List ℕ → ℕ
number_of bytes = fold (λ n b. (n * 256 + b) % 2 ^ 64) 0 bytes

-- before anything is written
abbrev pub first_hasher : HashKeys → PaneHasher
first_hasher keys = record { sum = keys.addend; next = keys.start; later = keys.key }

-- after one number more
abbrev pub written : PaneHasher → List ℕ → PaneHasher
written h bytes = record { sum = (h.sum + (h.next * number_of bytes) % 2 ^ 128) % 2 ^ 128; next = h.later; later = h.next }

abbrev pub finished : PaneHasher → ℕ
finished h = h.sum / 2 ^ 64
