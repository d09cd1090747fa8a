use Rattle.std.proofs.Common.{◌≡◌, replicate}
use Rattle.gather.specs.Buckets.{no_entries}
use Rattle.gather.proofs.buckets.empty_buckets.Given as goal

abbrev pub invariant-loop-group : goal.invariant-loop-group
invariant-loop-group l = l.buckets.items ≡ replicate l._group (no_entries l.width)
