use Rattle.std.proofs.Common.{◌≡◌, option_map}
use Rattle.std.specs.Prelude.{is_some, string_bytes}
use Rattle.std.specs.Option.{option_or}
use Rattle.leg_receipts.specs.Places.{place_by, place_said}
use Rattle.leg_receipts.specs.Made.{told_of}
use Rattle.leg_receipts.proofs.Finding.{plan_refused, plan_read}
use Rattle.leg_receipts.proofs.making.leg_receipt.Goals as goal

pub returns-in_err-plan : goal.returns-in_err-plan
unfolding place_said
returns-in_err-plan c =
    plan_refused (λ place text. string_bytes text ≡ told_of (is_some c.args.saved) c.args.told place) (λ p. place_by p c.args.input.now (option_or (option_map (λ bytes. bytes.now) c.args.saved) (option_map (λ bytes. bytes.now) c.args.from))) c.args.plan.now c.in_err-plan.field-0.0 c.from_residual.result c.from_residual.ensures.0 c.from_residual.ensures.1 c.in_err-plan.ensures

pub returns : goal.returns
unfolding place_said
returns c =
    plan_read (λ place text. string_bytes text ≡ told_of (is_some c.args.saved) c.args.told place) (λ p. place_by p c.args.input.now (option_or (option_map (λ bytes. bytes.now) c.args.saved) (option_map (λ bytes. bytes.now) c.args.from))) c.args.plan.now c.in_ok-plan.plan c.receipt_over.result c.in_ok-plan.ensures c.receipt_over.ensures
