use Rattle.std.proofs.Common.{◌<◌, map, sym, subst, ◌∙◌}
use Rattle.std.specs.List.{All}
use Rattle.key_groups.specs.Ranges.{group_owner}
use Rattle.key_groups.proofs.Each.{owned}
use Rattle.key_groups.proofs.ranges.owners_into.Goals as goal

pub returns-in-Some-clause-owners : goal.returns-in-Some-clause-owners
returns-in-Some-clause-owners c =
    c.owners_by_shift.ensures ∙ (λ i. map (group_owner (c.in-Some.ensures.power i) (c.get.ensures.says i)) c.args.groups.now)

pub returns-in-None-clause-owners : goal.returns-in-None-clause-owners
returns-in-None-clause-owners c =
    c.owners_by_division.ensures ∙ (λ i. map (group_owner (c.get-in-None-2.ensures.says i) (c.get-in-None.ensures.says i)) c.args.groups.now)

pub returns-in-Some-clause-below : goal.returns-in-Some-clause-below
returns-in-Some-clause-below c =
    subst (All (λ owner. owner < c.args.par)) (sym (returns-in-Some-clause-owners c)) (owned c.args.max c.args.par c.args.groups.now c.get.ensures.positive c.requires.groups)

pub returns-in-None-clause-below : goal.returns-in-None-clause-below
returns-in-None-clause-below c =
    subst (All (λ owner. owner < c.args.par)) (sym (returns-in-None-clause-owners c)) (owned c.args.max c.args.par c.args.groups.now c.get-in-None.ensures.positive c.requires.groups)
