use Rattle.std.proofs.Common.{None}
use Rattle.savepoint_codec.specs.Fields.{source_field}
use Rattle.savepoint_codec.proofs.Spelled.{spelled_more}
use Rattle.savepoint_codec.proofs.encoding.put_source_list.Goals as goal

pub loop-source-preserved : goal.loop-source-preserved
loop-source-preserved c =
    spelled_more (source_field None).spell c.args.sources.now c.loop-source.source-index _ _ _ _ _ c.loop-source-test.true c.source-item.is c.loop-source.invariant c.in_ok-put_source.ensures
