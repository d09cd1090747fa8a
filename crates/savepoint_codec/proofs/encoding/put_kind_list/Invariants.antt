use Rattle.std.proofs.Common.{◌≡◌, ◌++◌, take}
use Rattle.std.specs.List.{flat_map}
use Rattle.savepoint_codec.specs.Fields.{kind_field}
use Rattle.savepoint_codec.proofs.encoding.put_kind_list.Given as goal

abbrev pub invariant-loop-kind : goal.invariant-loop-kind
invariant-loop-kind l = l.out.items ≡ l.fn.out.items ++ flat_map kind_field.spell (take l.kind-index l.kinds)
