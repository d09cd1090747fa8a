use Rattle.std.proofs.Common.{◌≡◌, take}
use Rattle.pane_hashes.specs.Hashing.{number_of}
use Rattle.pane_hashes.proofs.hashing.PaneHasherHasher.write.Given as goal

abbrev pub invariant-loop-byte : goal.invariant-loop-byte
invariant-loop-byte l = l.number ≡ number_of (take l.byte-index l.bytes)
