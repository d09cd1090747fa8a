use Rattle.std.proofs.Common.{List, inr, subst}
use Rattle.std.specs.List.{Contains}
use Rattle.jiff_tz.specs.declared.tzif.Tzif.{Tzif as Table}
use Rattle.calendar_numbers.proofs.zones.Zones.knows.Goals as goal

pub returns-in-Some : goal.returns-in-Some
returns-in-Some c =
    let there = subst (λ (tables : List Table). Contains tables c.in-Some.table.now) c.deref.ensures.value c.in-Some.ensures.0 in
    λ t. inr (c.in-Some.table.now, there, c.in-Some.ensures.1)
