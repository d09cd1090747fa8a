use Rattle.std.proofs.Common.{◌≡◌, ℤ, FitsSigned, w64, rules, ap, ◌∙◌}
use Rattle.std.specs.Int.{w128}
use Rattle.std.proofs.lemmas.Int.{to_z-of_z}
use Rattle.plan_model.specs.Rows.{is_due}
use Rattle.stream_model.specs.Late.{is_late_time}
use Rattle.import_entries.specs.Ends.{last_end}
use Rattle.import_entries.proofs.Aligned.{same_due, late_due}
use Rattle.import_entries.proofs.rounding.rounded.Goals as goal

pub returns-clause-same : goal.returns-clause-same
returns-clause-same c =
    let fits : FitsSigned w128 c.last_end.result = search rules in
    let whole = to_z-of_z w128 c.last_end.result fits ∙ rw (to_z-of_z w64 c.args.mark c.ranges.mark) at c.last_end.ensures in
    λ w are s start. ap (λ (m : ℤ). is_due w m s) whole ∙ same_due c.args.ends c.args.mark w are s start

pub returns-clause-late : goal.returns-clause-late
returns-clause-late c =
    let fits : FitsSigned w128 c.last_end.result = search rules in
    let whole = to_z-of_z w128 c.last_end.result fits ∙ rw (to_z-of_z w64 c.args.mark c.ranges.mark) at c.last_end.ensures in
    λ w are apart t s window. ap (λ (m : ℤ). is_late_time m t) whole ∙ late_due c.args.ends c.args.mark w are apart t s window
