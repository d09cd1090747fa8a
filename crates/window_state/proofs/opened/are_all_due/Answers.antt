use Rattle.std.proofs.Common.{◌≡◌, ◌∙◌, sym, rules, FitsSigned}
use Rattle.std.specs.Int.{w64}
use Rattle.std.proofs.lemmas.Int.{to_z-of_z}
use Rattle.plan_model.specs.Rows.{is_due}
use Rattle.window_state.proofs.Starts.{all_due, last_due}
use Rattle.window_state.proofs.opened.are_all_due.Goals as goal

pub returns-in-Some : goal.returns-in-Some
returns-in-Some c =
    let w = c.args.w.now in
    let t = c.args.watermark in
    let s = c.in-Some.start.now in
    let es = c.args.opened.now.entries in
    let fits : FitsSigned w64 t = c.ranges.watermark in
    let start_fits : FitsSigned w64 s = search rules in
    let is : c.is_due.result ≡ is_due w t s = c.is_due.ensures ∙ (λ i. is_due w (to_z-of_z w64 t fits i) (to_z-of_z w64 s start_fits i)) in
    (λ due. all_due w t s es c.in-Some.ensures.all_up_to (sym is ∙ due), λ all. is ∙ last_due w t (s, c.in-Some.field-0-1.now) es c.in-Some.ensures.last all)
