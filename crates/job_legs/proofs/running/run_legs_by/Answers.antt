use Rattle.std.proofs.Common.{◌∙◌, List, IfOk, MatchResult, ap, sym, subst, length, option_map}
use Rattle.std.proofs.lemmas.Bool.{eqb-true}
use Rattle.leg_runs.specs.Choosing.{IsLegBy}
use Rattle.legs.specs.declared.leg.LegSpec.{LegSpec}
use Rattle.legs.specs.Requirements.{are_legs}
use Rattle.job_legs.specs.Ending.{IsJobEnd}
use Rattle.job_legs.specs.Running.{IsRunRefusal}
use Rattle.job_legs.specs.Turns.{HaveRunBy}
use Rattle.job_legs.specs.declared.running.LegsEnd.{LegsEnd}
use Rattle.job_legs.proofs.Refusals.{by_choices}
use Rattle.job_legs.proofs.running.run_legs_by.Goals as goal

pub returns-clause-ends : goal.returns-clause-ends
returns-clause-ends c =
    let p = c.args.plan.now in
    let i = c.args.input.now in
    let ends = subst (λ (legs : List LegSpec). MatchResult c.end_of_legs.result (λ (end : LegsEnd). IsJobEnd p i legs end.rows.items (option_map (λ b. b.items) end.savepoint)) (IsRunRefusal (λ fault. ⊥) i legs)) c.deref-2.ensures.value c.end_of_legs.ensures.ends in
    by_choices (λ (end : LegsEnd). IsJobEnd p i c.args.legs.items end.rows.items (option_map (λ b. b.items) end.savepoint)) i c.args.legs.items
    (ap are_legs (sym c.deref.ensures.value) ∙ sym c.are_legs.ensures ∙ c.if-not-are_legs.false) (length c.args.choices.now)
    (eqb-true (length c.args.choices.now) c.len.result (sym c.are_choices.ensures ∙ c.if-not-are_choices.false) ∙ (c.len.ensures ∙ c.args.legs.ok.0)) c.end_of_legs.result ends

pub returns-clause-chosen : goal.returns-clause-chosen
returns-clause-chosen c =
    let p = c.args.plan.now in
    let i = c.args.input.now in
    subst (λ (legs : List LegSpec). IfOk c.end_of_legs.result (λ (end : LegsEnd). HaveRunBy IsLegBy p i legs c.args.choices.now end.rows.items (option_map (λ b. b.items) end.savepoint))) c.deref-2.ensures.value c.end_of_legs.ensures.chosen
