use Rattle.std.proofs.Common.{◌≡◌, ◌∙◌, true, sym, subst, rules, FitsSigned}
use Rattle.std.specs.Int.{w64}
use Rattle.std.proofs.lemmas.Int.{to_z-of_z}
use Rattle.plan_model.specs.Windows.{is_start}
use Rattle.window_slices.proofs.Starts.{last_start}
use Rattle.window_slices.proofs.slices.back_to_start.Goals as goal

pub returns-clause-start : goal.returns-clause-start
returns-clause-start c =
    let w = c.args.window.now in
    let last = c.last_start_from-last.result in
    let fits : FitsSigned w64 last = search rules in
    subst (λ z. is_start w z ≡ true) (sym (to_z-of_z w64 last fits ∙ c.last_start_from-last.ensures)) (last_start w _ c.requires.window.slides).start
