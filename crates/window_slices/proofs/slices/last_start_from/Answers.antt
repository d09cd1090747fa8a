use Rattle.std.proofs.Common.{◌≡◌, ◌∙◌, true, subst, rules, FitsSigned}
use Rattle.std.specs.Int.{w64}
use Rattle.std.specs.Prelude.{IfSome}
use Rattle.std.proofs.lemmas.Int.{to_z-of_z}
use Rattle.plan_model.specs.Windows.{is_start}
use Rattle.window_slices.proofs.LastStarts.{last_by}
use Rattle.window_slices.proofs.slices.last_start_from.Goals as goal

pub returns-then-back-window : goal.returns-then-back-window
returns-then-back-window c =
    let w = c.args.window.now in
    let s = c.in-Some.start in
    let back = c.in-Some-checked_sub.back in
    let is : is_start w s ≡ true = subst (λ o. IfSome o (λ z. is_start w z ≡ true)) c.in-Some.is c.requires.start in
    let time : FitsSigned w64 c.args.time = search rules in
    let start : FitsSigned w64 s = search rules in
    let fits : FitsSigned w64 back = search rules in
    to_z-of_z w64 s start ∙ last_by w c.args.time s back c.requires.window is time start fits c.in-Some-checked_sub.ensures.1 c.if-back-ge0.true c.if-back-window.true
