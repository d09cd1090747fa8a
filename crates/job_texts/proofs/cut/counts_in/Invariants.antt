use Rattle.std.proofs.Common.{◌≡◌, map, drop}
use Rattle.job_texts.specs.Cut.{each_said, word_count}
use Rattle.job_texts.proofs.Parts.{with_front}
use Rattle.job_texts.proofs.cut.counts_in.Given as goal

abbrev pub invariant-loop-word : goal.invariant-loop-word
invariant-loop-word l = with_front l.counts.items (each_said word_count (map (λ w. w.now) (drop l.word-index l.words))) ≡ each_said word_count (map (λ w. w.now) l.words)
