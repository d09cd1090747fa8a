use Rattle.std.proofs.Common.{ℤ, ◌+ℤ◌, FitsSigned, w64, rules, ap, ◌∙◌}
use Rattle.std.proofs.lemmas.Int.{to_z-of_z}
use Rattle.jiff_core.specs.Timestamp.{nanos_of_seconds}
use Rattle.jiff_tz.specs.Zone.{offset_at}
use Rattle.calendar_numbers.proofs.number.calendar_number.Goals as goal

pub returns : goal.returns
returns c =
    let instant = rw (to_z-of_z w64 c.args.milliseconds c.ranges.milliseconds) at c.in_ok-timestamp.ensures in
    let fits : FitsSigned w64 c.number.result = search rules in
    record {
      shown = c.to_datetime.result;
      clocks = c.to_datetime.ensures ∙ ap (λ (n : ℤ). n +ℤ nanos_of_seconds (offset_at c.args.zone.now n)) instant;
      number = to_z-of_z w64 c.number.result fits ∙ c.number.ensures;
    }
