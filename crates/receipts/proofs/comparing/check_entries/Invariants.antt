use Rattle.std.proofs.Common.{◌≡◌, take}
use Rattle.receipts.proofs.comparing.check_entries.Given as goal

-- the sources so far are as they were told of
abbrev pub invariant-loop-place : goal.invariant-loop-place
invariant-loop-place l = take l.place l.told ≡ take l.place l.read
