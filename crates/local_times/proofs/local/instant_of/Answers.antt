use Rattle.std.proofs.Common.{rules, ◌≡◌, None, Some, inl, sym, ap, ◌∙◌}
use Rattle.jiff_core.specs.DateTime.{civil_nanos}
use Rattle.jiff_tz.specs.Zone.{ambiguous_at}
use Rattle.local_times.specs.Local.{chosen_offset, at_offset}
use Rattle.local_times.specs.Units.{nanos_in}
use Rattle.local_times.proofs.local.instant_of.Goals as goal

pub returns-in-Some-chosen : goal.returns-in-Some-chosen
returns-in-Some-chosen c =
    let clocks : civil_nanos c.in-Some.shown ≡ nanos_in c.args.unit c.args.number = search rules in
    let offsets : chosen_offset c.args.fold (ambiguous_at c.args.zone.now c.in-Some.shown) ≡ Some c.in-Some-chosen.offset = search rules in
    let instant : c.held.result ≡ at_offset c.args.unit c.args.number (Some c.in-Some-chosen.offset) = search rules in
    inl (record { shown = c.in-Some.shown; clocks = clocks; instant = instant ∙ ap (at_offset c.args.unit c.args.number) (sym offsets) })

pub returns-in-None : goal.returns-in-None
returns-in-None c =
    let clocks : civil_nanos c.in-Some.shown ≡ nanos_in c.args.unit c.args.number = search rules in
    let offsets : chosen_offset c.args.fold (ambiguous_at c.args.zone.now c.in-Some.shown) ≡ None = search rules in
    inl (record { shown = c.in-Some.shown; clocks = clocks; instant = ap (at_offset c.args.unit c.args.number) (sym offsets) })
