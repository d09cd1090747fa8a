use Rattle.std.proofs.Common.{◌≡◌, map, take}
use Rattle.input_changes.specs.Agreement.{entries_before}
use Rattle.receipts.specs.Read.{was_read_of}
use Rattle.receipts.proofs.digests.sources_read.Given as goal

abbrev pub invariant-loop-place : goal.invariant-loop-place
invariant-loop-place l = l.read.items ≡ map (map was_read_of) (take l.place (entries_before l.sources l.cut))
