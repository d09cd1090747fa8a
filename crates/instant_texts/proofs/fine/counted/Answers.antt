use Rattle.std.proofs.Common.{◌≡◌, ◌-◌, ◌^◌, pos, ◌+ℤ◌, ◌*ℤ◌, FitsSigned, w64, rules, ap, ◌∙◌}
use Rattle.std.specs.Int.{w128}
use Rattle.std.proofs.lemmas.Int.{to_z-of_z}
use Rattle.instant_texts.specs.Instants.{unit_digits, fraction_units, held}
use Rattle.instant_texts.proofs.fine.counted.Goals as goal

pub returns : goal.returns
returns c =
    let whole = to_z-of_z w64 c.args.thousandths c.ranges.thousandths in
    let fits : FitsSigned w128 c.units_with.result = search rules in
    let same : c.units_with.result ≡ c.args.thousandths *ℤ pos (10 ^ (unit_digits c.args.unit - 3)) +ℤ pos (fraction_units (unit_digits c.args.unit) c.args.fraction.now) = cc in
    c.held.ensures ∙ ap held (to_z-of_z w128 c.units_with.result fits ∙ same)
