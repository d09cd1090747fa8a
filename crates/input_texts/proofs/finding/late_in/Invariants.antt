use Rattle.std.proofs.Common.{◌≡◌, drop}
use Rattle.stream_model.specs.Late.{first_at}
use Rattle.input_texts.specs.Seen.{SourceSeen}
use Rattle.stream_model.proofs.Facts.{moved}
use Rattle.input_texts.proofs.finding.late_in.Given as goal

abbrev pub invariant-loop-place : goal.invariant-loop-place
invariant-loop-place l = moved l.place (first_at (λ (source : SourceSeen). source.late) (drop l.place l.sources)) ≡ first_at (λ (source : SourceSeen). source.late) l.sources
