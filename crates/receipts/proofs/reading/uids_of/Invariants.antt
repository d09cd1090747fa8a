use Rattle.std.proofs.Common.{◌≡◌, map, take}
use Rattle.receipts.proofs.reading.uids_of.Given as goal

abbrev pub invariant-loop-source : goal.invariant-loop-source
invariant-loop-source l = map (λ uid. uid.now) l.uids.items ≡ map (λ s. s.uid) (take l.source-index l.sources)
