use Rattle.std.proofs.Common.{rules, sym, ap, subst, FitsSigned, to_z, of_z}
use Rattle.std.specs.Int.{w128}
use Rattle.std.proofs.lemmas.Int.{to_z-of_z}
use Rattle.plan_model.specs.declared.spec.WindowSpec.{WindowSpec}
use Rattle.window_state.specs.Places.{PlacesData}
use Rattle.window_state.specs.Windows.{AreWhole, IsOperator}
use Rattle.window_state.proofs.Standing.{inside_first, no_entries}
use Rattle.window_state.proofs.windows.Windows.new.Goals as goal

pub invariant_of-result : goal.invariant_of-result
invariant_of-result c =
    let made = c.new.ensures in
    let from = c.earliest_from-from.result in
    let fits : FitsSigned w128 from = search rules in
    let whole = subst (λ (w : WindowSpec). AreWhole w (to_z w128 (of_z w128 from))) (sym (ap (λ (v : PlacesData). v.window) made)) (subst (AreWhole c.args.window) (sym (to_z-of_z w128 from fits)) c.earliest_from-from.ensures) in
    inside_first _ (subst IsOperator (sym (ap (λ (v : PlacesData). v.window) made)) c.requires) whole c.new-2.ensures.empty
    (λ q some. no_entries c.new.result.entries q (ap (λ (v : PlacesData). v.entries) made) some)
    (λ q some. no_entries c.new.result.entries q (ap (λ (v : PlacesData). v.entries) made) some)
