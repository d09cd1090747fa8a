use Rattle.std.proofs.Common.{◌≤◌, length, sym, ◌∙◌, arith}
use Rattle.std.proofs.lemmas.List.{length-map}
use Rattle.legs.specs.declared.cut.Cut.{Cut}
use Rattle.legs.specs.Stops.{until_in}
use Rattle.task_setups.specs.Legs.{counts_of, sizes_of}
use Rattle.task_setups.proofs.Limits.{at_save}
use Rattle.task_setups.proofs.Standing.{after_all}
use Rattle.task_setups.proofs.leg.limit_of.Goals as goal

pub returns-in-Some : goal.returns-in-Some
returns-in-Some c =
    let found = c.in-Some.ensures.lookup in
    c.count.ensures ∙ sym (at_save (sizes_of c.args.input.now) (until_in c.args.leg.now.until) c.args.leg.now.saves.now c.args.save c.args.source c.args.partition c.in-Some.cut.now found.3.0 found.1)

pub returns-in-None : goal.returns-in-None
returns-in-None c =
    let saves = c.args.leg.now.saves.now in
    let long = length-map saves (λ (cut : Cut). cut.counts) in
    let past : length (counts_of saves) ≤ c.args.save = omega (arith, long, c.in-None.ensures.lookup.3) in
    c.end_of.ensures ∙ sym (after_all (sizes_of c.args.input.now) (until_in c.args.leg.now.until) (counts_of saves) c.args.save c.args.source c.args.partition past)
