use Rattle.std.proofs.Common.{arith}
use Rattle.std.proofs.lemmas.Int.{ints, to_z-of_z}
use Rattle.std.proofs.lemmas.Grind.{common_steps}
use Rattle.plan_model.proofs.numbers.widened.Goals as goal

pub loop-narrow-preserved : goal.loop-narrow-preserved
loop-narrow-preserved c = grind (arith, common_steps, ints, to_z-of_z)
