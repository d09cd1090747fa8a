use Rattle.std.proofs.Common.{◌≡◌, ◌-◌, ◌^◌, min, sum_by, take}
use Rattle.input_texts.specs.Seen.{SourceSeen}
use Rattle.input_texts.proofs.finding.are_few.Given as goal

abbrev pub invariant-loop-source : goal.invariant-loop-source
invariant-loop-source l = l.total ≡ min (sum_by (λ (source : SourceSeen). source.records) (take l.source-index l.sources)) (2 ^ 64 - 1)
