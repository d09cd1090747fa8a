use Rattle.std.proofs.Common.{◌≡◌, take}
use Rattle.receipts.proofs.comparing.check_source.Given as goal

-- the partitions so far are as they were told of
abbrev pub invariant-loop-place : goal.invariant-loop-place
invariant-loop-place l = take l.place l.told ≡ take l.place l.read
