use Rattle.savepoint_codec.proofs.Facts.{spelled_more}
use Rattle.savepoint_index.specs.Writing.{group_bytes}
use Rattle.savepoint_index.proofs.encoding.put_lists.Goals as goal

pub loop-group-preserved : goal.loop-group-preserved
loop-group-preserved c =
    spelled_more group_bytes c.args.groups.now c.loop-group.group-index _ _ _ _ _ c.loop-group-test.true c.group-item.is c.loop-group.invariant c.in_ok-put_entry_list.ensures
