use Rattle.std.proofs.Common.{rules, ◌≡◌, ◌+ℤ◌, pos, ◌∙◌}
use Rattle.std.proofs.Math.IntN.{+ℤ_idr}
use Rattle.jiff_core.specs.DateTime.{civil_nanos}
use Rattle.jiff_tz.specs.Zone.{offset_at}
use Rattle.local_times.proofs.civil.shown_at.Goals as goal

pub returns-in-Ok : goal.returns-in-Ok
unfolding offset_at
returns-in-Ok c =
    let nanos : c.in-Ok.timestamp.nanosecond ≡ c.args.nanoseconds = search rules in
    let shown : civil_nanos c.to_datetime.result ≡ c.in-Ok.timestamp.nanosecond +ℤ pos 0 = c.to_datetime.ensures in
    shown ∙ +ℤ_idr c.in-Ok.timestamp.nanosecond ∙ nanos
