use Rattle.std.proofs.lemmas.Result.{IfOk-weaker}
use Rattle.leg_tasks.specs.Leaving.{state_at}
use Rattle.leg_tasks.proofs.leaving.save.Goals as goal

pub returns : goal.returns
returns c =
    IfOk-weaker c.save_parts.result _ _ (λ s is states have. is (λ t. state_at c.args.at (states t)) (c.in_ok-parts.ensures.says states have)) c.save_parts.ensures
