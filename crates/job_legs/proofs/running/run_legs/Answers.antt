use Rattle.std.proofs.Common.{◌≡◌, ◌∙◌, List, Err, IfOk, MatchResult, Ok, Result, ap, sym, subst, option_map}
use Rattle.core_steps.specs.declared.finish.Finish.{Finish}
use Rattle.legs.specs.declared.fault.LegFault.{LegFault}
use Rattle.legs.specs.declared.fault.LegFault.TheVariants.{Threads}
use Rattle.legs.specs.declared.leg.LegSpec.{LegSpec}
use Rattle.legs.specs.Requirements.{are_legs}
use Rattle.job_legs.specs.Ending.{IsJobEnd}
use Rattle.job_legs.specs.Running.{IsRunRefusal}
use Rattle.job_legs.specs.declared.running.LegsEnd.{LegsEnd}
use Rattle.job_legs.proofs.Refusals.{in_threads}
use Rattle.job_legs.proofs.running.run_legs.Goals as goal

pub returns : goal.returns
returns g c =
    let p = c.args.plan.now in
    let i = c.args.input.now in
    let ends = subst (λ (legs : List LegSpec). MatchResult c.end_of_legs.result (λ (end : LegsEnd). IsJobEnd p i legs end.rows.items (option_map (λ b. b.items) end.savepoint)) (IsRunRefusal (λ fault. fault ≡ Threads) i legs)) c.deref-2.ensures.value c.end_of_legs.ensures.ends in
    in_threads (λ (end : LegsEnd). IsJobEnd p i c.args.legs.items end.rows.items (option_map (λ b. b.items) end.savepoint)) i c.args.legs.items
    (ap are_legs (sym c.deref.ensures.value) ∙ sym c.are_legs.ensures ∙ c.if-not-are_legs.false) c.end_of_legs.result ends

always : (result : Result Finish LegFault) → IfOk result (λ finish. Unit {0})
always (Ok finish) = tt
always (Err fault) = tt

pub end_of_legs-requires-clause-goes : goal.end_of_legs-requires-clause-goes
end_of_legs-requires-clause-goes g c state choices p i start scale saves stop result next can step = always result
