use Rattle.std.proofs.Common.{◌≡◌, map, take}
use Rattle.input_changes.specs.Agreement.{entries_before_in}
use Rattle.receipts.specs.Read.{was_read_of}
use Rattle.receipts.proofs.digests.source_read.Given as goal

abbrev pub invariant-loop-place : goal.invariant-loop-place
invariant-loop-place l = l.read.items ≡ map was_read_of (take l.place (entries_before_in l.partitions l.counts))
