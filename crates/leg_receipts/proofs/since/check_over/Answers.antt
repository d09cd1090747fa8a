use Rattle.std.proofs.Common.{Some, option_map}
use Rattle.leg_receipts.specs.Places.{place_by, place_with}
use Rattle.leg_receipts.specs.Since.{IsBySince}
use Rattle.leg_receipts.proofs.Finding.{input_refused, input_read}
use Rattle.leg_receipts.proofs.since.check_over.Goals as goal

pub returns-in_err-input : goal.returns-in_err-input
unfolding place_by
returns-in_err-input c =
    let p = c.args.plan.now in
    input_refused (IsBySince c.args.since.now (option_map (λ bytes. bytes.now) c.args.names)) (λ i. place_with p i (Some c.args.from.now)) p c.args.input.now c.in_err-input.field-0.0 c.from_residual.result c.from_residual.ensures.0 c.from_residual.ensures.1 c.in_err-input.ensures.reads

pub returns : goal.returns
unfolding place_by
returns c =
    let p = c.args.plan.now in
    input_read (IsBySince c.args.since.now (option_map (λ bytes. bytes.now) c.args.names)) (λ i. place_with p i (Some c.args.from.now)) p c.args.input.now c.in_ok-input.input c.check_from.result c.in_ok-input.ensures.reads c.check_from.ensures
