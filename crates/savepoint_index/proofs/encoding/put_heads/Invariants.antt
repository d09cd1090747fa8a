use Rattle.std.proofs.Common.{◌≡◌, ◌++◌, take}
use Rattle.std.specs.List.{flat_map}
use Rattle.savepoint_index.specs.Index.{heads_of}
use Rattle.savepoint_index.specs.Writing.{head_bytes}
use Rattle.savepoint_index.proofs.Spelled.{end_of}
use Rattle.savepoint_index.proofs.encoding.put_heads.Given as goal

abbrev pub invariant-loop-group : goal.invariant-loop-group
invariant-loop-group l = (l.out.items ≡ l.fn.out.items ++ flat_map head_bytes (heads_of l.size l.first (take l.group-index l.groups))) × (l.place ≡ end_of l.size l.first (take l.group-index l.groups))
