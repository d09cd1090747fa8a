use Rattle.std.proofs.Common.{◌≡◌, ◌++◌, take}
use Rattle.std.specs.List.{flat_map}
use Rattle.savepoint_index.specs.Writing.{group_bytes}
use Rattle.savepoint_index.proofs.encoding.put_lists.Given as goal

abbrev pub invariant-loop-group : goal.invariant-loop-group
invariant-loop-group l = l.out.items ≡ l.fn.out.items ++ flat_map group_bytes (take l.group-index l.groups)
