use Rattle.std.proofs.Common.{◌≡◌, ◌++◌, None, take}
use Rattle.std.specs.List.{flat_map}
use Rattle.savepoint_codec.specs.Fields.{source_field}
use Rattle.savepoint_codec.proofs.encoding.put_source_list.Given as goal

abbrev pub invariant-loop-source : goal.invariant-loop-source
invariant-loop-source l = l.out.items ≡ l.fn.out.items ++ flat_map (source_field None).spell (take l.source-index l.sources)
