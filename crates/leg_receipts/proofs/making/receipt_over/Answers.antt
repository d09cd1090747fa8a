use Rattle.std.proofs.Common.{◌≡◌, option_map}
use Rattle.std.specs.Prelude.{is_some, string_bytes}
use Rattle.std.specs.Option.{option_or}
use Rattle.leg_receipts.specs.Places.{place_by, place_with}
use Rattle.leg_receipts.specs.Made.{told_of}
use Rattle.leg_receipts.proofs.Finding.{input_refused, input_read}
use Rattle.leg_receipts.proofs.making.receipt_over.Goals as goal

pub returns-in_err-input : goal.returns-in_err-input
unfolding place_by
returns-in_err-input c =
    let p = c.args.plan.now in
    input_refused (λ place text. string_bytes text ≡ told_of (is_some c.args.saved) c.args.told place) (λ i. place_with p i (option_or (option_map (λ bytes. bytes.now) c.args.saved) (option_map (λ bytes. bytes.now) c.args.from))) p c.args.input.now c.in_err-input.field-0.0 c.from_residual.result c.from_residual.ensures.0 c.from_residual.ensures.1 c.in_err-input.ensures.reads

pub returns : goal.returns
unfolding place_by
returns c =
    let p = c.args.plan.now in
    input_read (λ place text. string_bytes text ≡ told_of (is_some c.args.saved) c.args.told place) (λ i. place_with p i (option_or (option_map (λ bytes. bytes.now) c.args.saved) (option_map (λ bytes. bytes.now) c.args.from))) p c.args.input.now c.in_ok-input.input c.receipt_on.result c.in_ok-input.ensures.reads c.receipt_on.ensures
