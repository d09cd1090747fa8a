use Rattle.savepoint_codec.proofs.Spelled.{puts, groups-spell}
use Rattle.savepoint_codec.proofs.encoding.put_groups.Goals as goal

pub returns : goal.returns
returns c = puts c.put_group_list.result _ _ _ _ _ _ c.in_ok-put_u16.ensures (groups-spell c.args.max c.args.kinds.now c.args.groups.now) c.put_group_list.ensures
