use Rattle.std.proofs.Common.{Some, option_map}
use Rattle.leg_receipts.specs.Places.{place_by, place_said}
use Rattle.leg_receipts.specs.Since.{IsBySince}
use Rattle.leg_receipts.proofs.Finding.{plan_refused, plan_read}
use Rattle.leg_receipts.proofs.since.check_since.Goals as goal

pub returns-in_err-plan : goal.returns-in_err-plan
unfolding place_said
returns-in_err-plan c =
    plan_refused (IsBySince c.args.since.now (option_map (λ bytes. bytes.now) c.args.names)) (λ p. place_by p c.args.input.now (Some c.args.from.now)) c.args.plan.now c.in_err-plan.field-0.0 c.from_residual.result c.from_residual.ensures.0 c.from_residual.ensures.1 c.in_err-plan.ensures

pub returns : goal.returns
unfolding place_said
returns c =
    plan_read (IsBySince c.args.since.now (option_map (λ bytes. bytes.now) c.args.names)) (λ p. place_by p c.args.input.now (Some c.args.from.now)) c.args.plan.now c.in_ok-plan.plan c.check_over.result c.in_ok-plan.ensures c.check_over.ensures
