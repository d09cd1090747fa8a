use Rattle.std.proofs.Common.{◌≡◌, Ok, option_map, refl, sym, subst, ap, ◌∙◌}
use Rattle.std.specs.Prelude.{is_some, string_bytes}
use Rattle.std.specs.Option.{option_or}
use Rattle.answers.specs.Answer.{Fails}
use Rattle.job_texts.specs.Fault.{is_memory}
use Rattle.job.specs.Leg.{start_said}
use Rattle.leg_receipts.specs.Places.{place, place_with}
use Rattle.leg_receipts.specs.Made.{told_of}
use Rattle.leg_receipts.proofs.Finding.{refused, read}
use Rattle.leg_receipts.proofs.making.receipt_on.Goals as goal

pub returns-in_err-start : goal.returns-in_err-start
unfolding place_with
returns-in_err-start c =
    let p = c.args.plan.now in
    let i = c.args.input.now in
    refused (λ place text. string_bytes text ≡ told_of (is_some c.args.saved) c.args.told place) (λ s. Ok (place p i s)) (start_said p i (option_or (option_map (λ bytes. bytes.now) c.args.saved) (option_map (λ bytes. bytes.now) c.args.from))) c.in_err-start.field-0.0 c.from_residual.result c.from_residual.ensures.0 c.from_residual.ensures.1
    (subst (λ from. Fails is_memory c.in_err-start.field-0.0 (start_said p i from)) c.last_of.ensures c.in_err-start.ensures.reads)

pub returns : goal.returns
unfolding place_with
returns c =
    let p = c.args.plan.now in
    let i = c.args.input.now in
    let s = c.in_ok-start.start in
    let last = option_or (option_map (λ bytes. bytes.now) c.args.saved) (option_map (λ bytes. bytes.now) c.args.from) in
    let text = c.in_ok-text_from.field-0 in
    let said : start_said p i last ≡ Ok s = subst (λ from. start_said p i from ≡ Ok s) c.last_of.ensures c.in_ok-start.ensures.reads in
    let told : string_bytes text ≡ told_of (is_some c.args.saved) c.args.told (place p i s) = c.in_ok-text_from.ensures ∙ ap (λ b. told_of b c.args.told (place p i s)) c.is_some-is_saved.ensures in
    read (λ place text. string_bytes text ≡ told_of (is_some c.args.saved) c.args.told place) (λ z. Ok (place p i z)) (start_said p i last) s (Ok text) said (place p i s, refl, tt, told)
