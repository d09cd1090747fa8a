use Rattle.std.proofs.Common.{refl}
use Rattle.savepoint_codec.specs.Fields.{kind_field}
use Rattle.savepoint_codec.proofs.Spelled.{spelled_more}
use Rattle.savepoint_codec.proofs.encoding.put_kind_list.Goals as goal

pub loop-kind-preserved : goal.loop-kind-preserved
loop-kind-preserved c =
    spelled_more kind_field.spell c.args.kinds.now c.loop-kind.kind-index _ _ _ _ _ c.loop-kind-test.true refl c.loop-kind.invariant c.in_ok-put_kind.ensures
