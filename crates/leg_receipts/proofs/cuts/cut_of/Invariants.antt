use Rattle.std.proofs.Common.{◌≡◌, map, take}
use Rattle.leg_receipts.proofs.cuts.cut_of.Given as goal

abbrev pub invariant-loop-source : goal.invariant-loop-source
invariant-loop-source l = l.counts.items ≡ map (map (λ p. p.offset)) (take l.source-index l.source-items)
