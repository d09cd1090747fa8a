use Rattle.std.proofs.Common.{◌≡◌, map, length, take}
use Rattle.leg_receipts.proofs.cuts.end_of.Given as goal

abbrev pub invariant-loop-source : goal.invariant-loop-source
invariant-loop-source l = l.counts.items ≡ map (map (λ entries. length entries)) (take l.source-index l.source-items)
