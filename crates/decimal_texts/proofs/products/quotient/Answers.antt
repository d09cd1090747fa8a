use Rattle.std.proofs.Common.{arith, ◌≡◌, ◌-◌, ◌*◌, ◌/◌, ◌%◌, ◌^◌, ◌<◌, ℕ, Option, Some, None, ap, sym, ◌∙◌}
use Rattle.decimal_texts.specs.Exact.{exact_quotient, held}
use Rattle.decimal_texts.proofs.Quotients.{none_of, small_power, ten_some, too_fine, divided, left_over}
use Rattle.decimal_texts.proofs.Shifts.{held_is}
use Rattle.decimal_texts.proofs.products.quotient.Goals as goal

pub returns-then-number-eq0 : goal.returns-then-number-eq0
returns-then-number-eq0 c = sym (ap (λ (n : ℕ). held (exact_quotient n c.args.up c.args.down)) c.if-number-eq0.true ∙ ap held (none_of c.args.up c.args.down))

pub returns-then-cut-gt38 : goal.returns-then-cut-gt38
returns-then-cut-gt38 c =
    let cut : 38 < c.args.down - c.args.up = omega arith in
    sym (ap held (too_fine c.args.number c.args.up c.args.down (omega arith) (omega arith) cut))

pub pow-power-requires : goal.pow-power-requires
pow-power-requires c = small_power c.saturating_sub-cut.result c.if-cut-gt38.false

pub nonzero_rem-number : goal.nonzero_rem-number
nonzero_rem-number c = omega (arith, ten_some c.saturating_sub-cut.result)

pub returns-then-number-power-ne0 : goal.returns-then-number-power-ne0
returns-then-number-power-ne0 c =
    let cut : c.saturating_sub-cut.result ≡ c.args.down - c.args.up = c.saturating_sub-cut.ensures ∙ ap (λ (up : ℕ). c.args.down - up) c.from.ensures in
    let power : c.pow-power.result ≡ 10 ^ (c.args.down - c.args.up) = c.pow-power.ensures ∙ ap (λ (n : ℕ). 10 ^ n) cut in
    let some : 0 < c.args.number % 10 ^ (c.args.down - c.args.up) = omega (arith, c.if-number-power-ne0.true, ap (λ (n : ℕ). c.args.number % n) power) in
    sym (ap held (left_over c.args.number c.args.up c.args.down some))

pub returns : goal.returns
returns c =
    let cut : c.saturating_sub-cut.result ≡ c.args.down - c.args.up = c.saturating_sub-cut.ensures ∙ ap (λ (up : ℕ). c.args.down - up) c.from.ensures in
    let power : c.pow-power.result ≡ 10 ^ (c.args.down - c.args.up) = c.pow-power.ensures ∙ ap (λ (n : ℕ). 10 ^ n) cut in
    let more : c.saturating_sub-more.result ≡ c.args.up - c.args.down = c.saturating_sub-more.ensures ∙ ap (λ (up : ℕ). up - c.args.down) c.from-2.ensures in
    let none : c.args.number % 10 ^ (c.args.down - c.args.up) ≡ 0 = ap (λ (n : ℕ). c.args.number % n) (sym power) ∙ c.if-number-power-ne0.false in
    let number : c.args.number / c.pow-power.result * 10 ^ c.saturating_sub-more.result ≡ c.args.number / 10 ^ (c.args.down - c.args.up) * 10 ^ (c.args.up - c.args.down)
    = ap (λ (n : ℕ). c.args.number / n * 10 ^ c.saturating_sub-more.result) power ∙ ap (λ (n : ℕ). c.args.number / 10 ^ (c.args.down - c.args.up) * 10 ^ n) more in
    c.ok_or.ensures.value ∙ held_is c.raised_wide.result _ c.raised_wide.ensures ∙ ap (λ (n : ℕ). held (Some n)) number
    ∙ ap held (sym (divided c.args.number c.args.up c.args.down none))
