use Rattle.std.proofs.Common.{rules, arith, ◌≡◌, ◌-◌, ◌*◌, ◌^◌, ℕ, take, length, List, ap, ◌∙◌}
use Rattle.std.specs.Str.Parse.{digits_value}
use Rattle.field_values.proofs.Numbers.{given}
use Rattle.decimal_texts.proofs.Shifts.{kept_digits}
use Rattle.instant_texts.specs.Instants.{fraction_units}
use Rattle.instant_texts.proofs.Forms.{all_taken, few_units}
use Rattle.instant_texts.proofs.fine.fraction_units.Goals as goal

pub raised_digits-requires : goal.raised_digits-requires
raised_digits-requires c =
    let kept = (kept_digits c.args.digits.now c.min.result c.requires.digits).0 in
    search rules

pub returns-clause-value : goal.returns-clause-value
unfolding fraction_units
returns-clause-value c =
    let taken = all_taken c.args.digits.now c.args.count c.min.result c.min.ensures in
    let same : digits_value 10 (take c.min.result c.args.digits.now) * 10 ^ (c.args.count - length (take c.min.result c.args.digits.now)) ≡ fraction_units c.args.count c.args.digits.now
    = ap (λ (l : List ℕ). digits_value 10 l * 10 ^ (c.args.count - length l)) taken in
    let few = few_units c.args.digits.now c.args.count c.requires.digits c.requires.few in
    c.unwrap_or.ensures ∙ given c.raised_digits.result _ (omega (arith, same, few)) c.raised_digits.ensures ∙ same

pub returns-clause-bound : goal.returns-clause-bound
unfolding fraction_units
returns-clause-bound c =
    let few = few_units c.args.digits.now c.args.count c.requires.digits c.requires.few in
    omega (arith, returns-clause-value c, few)
