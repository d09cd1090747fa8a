use Rattle.std.proofs.Common.{◌≡◌}
use Rattle.gather.proofs.buckets.reserve.Given as goal

abbrev pub invariant-loop-group : goal.invariant-loop-group
invariant-loop-group l = l.buckets ≡ l.fn.buckets
