use Rattle.std.proofs.Common.{arith}
use Rattle.plan_model.specs.declared.spec.Aggregate.TheVariants.{Count}
use Rattle.aggregates.specs.Kinds.{kind_of}
use Rattle.aggregates.proofs.Fronts.{writes_map}
use Rattle.aggregates.proofs.numbers.write_kinds.Goals as goal

pub loop-i-preserved : goal.loop-i-preserved
loop-i-preserved c =
    writes_map kind_of c.args.aggregates.now c.args.kinds.now c.loop-i.kinds c.loop-i.i Count c.of.result (omega arith) c.requires c.loop-i.invariant c.of.ensures
