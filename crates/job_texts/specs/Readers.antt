-- What reading all bytes of a reader takes from it.
use Rattle.std.specs.Prelude.{ℕ, ◌≤◌, List, Option, length}
use Rattle.std.specs.Io.KnownBytes.{Consumes}

-- the reader has lost some bytes from its front, at most so many
abbrev pub LosesAtMost : ℕ → Option (List ℕ) → Option (List ℕ) → Type 0
LosesAtMost most old new = (taken : List ℕ) × (length taken ≤ most) × Consumes old new taken
