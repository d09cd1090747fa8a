-- The law of spelled cuts.
use Rattle.std.specs.Prelude.{◌≡◌, ℕ, ◌<◌, ◌^◌, List, length, Some}
use Rattle.std.specs.List.{AllByRecursion}
use Rattle.legs.specs.declared.cut.Cut.{Cut}
use Rattle.job_texts.specs.Cut.{cut_said}
use Rattle.cut_texts.specs.Words.{cut_text}

-- counts of 64 bits, one at least
abbrev pub AreCounts : List ℕ → Type 0
AreCounts counts = (0 < length counts) × AllByRecursion (λ n. n < 2 ^ 64) counts

-- what is spelled is what is said of it, where each source has a count
abbrev pub SpelledIsSaid : Type 0
SpelledIsSaid = (cut : Cut) → 0 < length cut.counts → AllByRecursion AreCounts cut.counts → cut_said (cut_text cut.counts) ≡ Some cut
