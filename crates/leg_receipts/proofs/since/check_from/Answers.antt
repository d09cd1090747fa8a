use Rattle.std.proofs.Common.{Ok, Some, option_map, refl}
use Rattle.job.specs.Leg.{start_said}
use Rattle.leg_receipts.specs.Places.{place, place_with}
use Rattle.leg_receipts.specs.Since.{IsBySince}
use Rattle.leg_receipts.proofs.Finding.{refused, read}
use Rattle.leg_receipts.proofs.since.check_from.Goals as goal

pub returns-in_err-start : goal.returns-in_err-start
unfolding place_with
returns-in_err-start c =
    let p = c.args.plan.now in
    let i = c.args.input.now in
    refused (IsBySince c.args.since.now (option_map (λ bytes. bytes.now) c.args.names)) (λ s. Ok (place p i s)) (start_said p i (Some c.args.from.now)) c.in_err-start.field-0.0 c.from_residual.result c.from_residual.ensures.0 c.from_residual.ensures.1 c.in_err-start.ensures.reads

pub returns : goal.returns
unfolding place_with
returns c =
    let p = c.args.plan.now in
    let i = c.args.input.now in
    let s = c.in_ok-start.start in
    read (IsBySince c.args.since.now (option_map (λ bytes. bytes.now) c.args.names)) (λ s. Ok (place p i s)) (start_said p i (Some c.args.from.now)) s (Ok c.check_before.result) c.in_ok-start.ensures.reads (place p i s, refl, tt, c.check_before.ensures)
