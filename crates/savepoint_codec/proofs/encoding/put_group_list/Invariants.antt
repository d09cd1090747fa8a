use Rattle.std.proofs.Common.{◌≡◌, ◌++◌, None, take}
use Rattle.std.specs.List.{flat_map}
use Rattle.savepoint_codec.specs.Fields.{group_field}
use Rattle.savepoint_codec.proofs.encoding.put_group_list.Given as goal

abbrev pub invariant-loop-group : goal.invariant-loop-group
invariant-loop-group l = l.out.items ≡ l.fn.out.items ++ flat_map (group_field l.max l.kinds None).spell (take l.group-index l.groups)
