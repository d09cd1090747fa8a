use Rattle.std.proofs.Common.{[], ◌∷◌, ◌++◌, take, drop, sym, ap, ◌∙◌, append-nil, ◌≤◌, length, arith}
use Rattle.std.proofs.Math.ListN.{drop_of_length-le}
use Rattle.task_setups.proofs.Picked.{there}
use Rattle.task_setups.proofs.filters.push_at.Goals as goal

pub returns-in_ok-push-in-Some : goal.returns-in_ok-push-in-Some
returns-in_ok-push-in-Some c =
    let found = c.in-Some.ensures.lookup in
    c.in_ok-push-in-Some.ensures.items
    ∙ ap (λ f. c.args.filters.now.items ++ f ∷ []) c.in_ok-copied-in-Some.ensures
    ∙ ap (λ fs. c.args.filters.now.items ++ fs) (sym (there c.filters.result.now c.args.place c.in-Some.filter.now found.3.0 found.1))
    ∙ ap (λ fs. c.args.filters.now.items ++ take 1 (drop c.args.place fs)) c.filters.ensures.says

pub returns-in-None : goal.returns-in-None
returns-in-None c =
    let past : length c.args.plan.now.filters ≤ c.args.place = omega (arith, c.in-None.ensures.lookup.3, ap length c.filters.ensures.says) in
    sym (ap (λ fs. c.args.filters.now.items ++ take 1 fs) (drop_of_length-le c.args.plan.now.filters past) ∙ append-nil c.args.filters.now.items)
