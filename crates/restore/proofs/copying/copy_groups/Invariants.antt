use Rattle.std.proofs.Common.{◌≡◌, take}
use Rattle.restore.proofs.copying.copy_groups.Given as goal

abbrev pub invariant-loop-group : goal.invariant-loop-group
invariant-loop-group l = l.copied.items ≡ take l.group-index l.groups
