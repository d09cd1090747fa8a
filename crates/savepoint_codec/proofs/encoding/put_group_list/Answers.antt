use Rattle.std.proofs.Common.{None}
use Rattle.savepoint_codec.specs.Fields.{group_field}
use Rattle.savepoint_codec.proofs.Spelled.{spelled_more}
use Rattle.savepoint_codec.proofs.encoding.put_group_list.Goals as goal

pub loop-group-preserved : goal.loop-group-preserved
loop-group-preserved c =
    spelled_more (group_field c.args.max c.args.kinds.now None).spell c.args.groups.now c.loop-group.group-index _ _ _ _ _ c.loop-group-test.true c.group-item.is c.loop-group.invariant c.in_ok-put_group.ensures
