use Rattle.std.proofs.Common.{◌≡◌, ◌++◌, take}
use Rattle.std.specs.List.{flat_map}
use Rattle.savepoint_codec.specs.Writing.{entry_bytes}
use Rattle.savepoint_codec.proofs.encoding.put_entry_list.Given as goal

abbrev pub invariant-loop-i : goal.invariant-loop-i
invariant-loop-i l = l.out.items ≡ l.fn.out.items ++ flat_map entry_bytes (take l.i l.entries.entries)
