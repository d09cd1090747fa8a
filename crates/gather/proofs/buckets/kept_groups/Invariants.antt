use Rattle.std.proofs.Common.{◌≡◌, ◌<◌, ◌^◌, length}
use Rattle.std.specs.List.{All}
use Rattle.gather.specs.Buckets.{groups_from}
use Rattle.gather.proofs.buckets.kept_groups.Given as goal

abbrev pub invariant-loop-entries : goal.invariant-loop-entries
invariant-loop-entries l = record {
  count : l.group ≡ length l.yielded;
  says : l.groups.items ≡ groups_from 0 l.yielded;
  long : All (λ b. length b.entries < 2 ^ 64) l.yielded;
}
