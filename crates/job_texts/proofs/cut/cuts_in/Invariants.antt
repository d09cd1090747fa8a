use Rattle.std.proofs.Common.{◌≡◌, map, drop}
use Rattle.job_texts.specs.Cut.{cut_said, each_said}
use Rattle.job_texts.proofs.Parts.{with_front}
use Rattle.job_texts.proofs.cut.cuts_in.Given as goal

abbrev pub invariant-loop-word : goal.invariant-loop-word
invariant-loop-word l = with_front l.cuts.items (each_said cut_said (map (λ w. w.now) (drop l.word-index l.words))) ≡ each_said cut_said (map (λ w. w.now) l.words)
