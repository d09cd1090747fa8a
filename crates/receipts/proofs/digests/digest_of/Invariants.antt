use Rattle.std.proofs.Common.{take}
use Rattle.sha2.specs.Hashers.{Holds256}
use Rattle.receipts.specs.Lines.{lines_of}
use Rattle.receipts.proofs.digests.digest_of.Given as goal

-- the hasher holds the lines so far
abbrev pub invariant-loop-entry : goal.invariant-loop-entry
invariant-loop-entry l = Holds256 l.hasher (lines_of (take l.entry-index l.entries))
