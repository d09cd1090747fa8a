use Rattle.savepoint_codec.proofs.Spelled.{puts, sources-spell}
use Rattle.savepoint_codec.proofs.encoding.put_sources.Goals as goal

pub returns : goal.returns
returns c = puts c.put_source_list.result _ _ _ _ _ _ c.in_ok-put_u8.ensures (sources-spell c.args.sources.now) c.put_source_list.ensures
