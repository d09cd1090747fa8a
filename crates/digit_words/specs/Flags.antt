-- Words with a flag, the high bit, for some of their bytes.
use Rattle.std.specs.Prelude.{◌≡◌, ℕ, ◌<◌, ◌/◌}
use Rattle.core.specs.Int.{w64, trailing_zeros}

-- the word has a flag just where the other has one, and the first flag of both is that of the same byte
pub record IsFirstFlagOf (word flags : ℕ) : Type 0 where
  pub none : word ≡ 0 → flags ≡ 0
  pub some : 0 < word → 0 < flags
  pub first : 0 < word → trailing_zeros w64 word / 8 ≡ trailing_zeros w64 flags / 8
