use Rattle.std.proofs.Common.{◌≡◌, ◌∙◌, sym, rules, FitsSigned}
use Rattle.std.specs.Int.{w64}
use Rattle.std.proofs.lemmas.Int.{to_z-of_z}
use Rattle.plan_model.specs.Rows.{is_due}
use Rattle.window_state.proofs.Starts.{popped_taken, popped_those, none_due}
use Rattle.window_state.proofs.opened.pop_due.Goals as goal

pub returns-then-is_due-clause-taken : goal.returns-then-is_due-clause-taken
returns-then-is_due-clause-taken c = popped_taken c.pop_first.result c.args.opened.now.entries c.pop_first.new.self.entries c.pop_first.ensures.removal c.pop_first.ensures.all_above

pub returns-then-is_due-clause-those : goal.returns-then-is_due-clause-those
returns-then-is_due-clause-those c = popped_those c.pop_first.result c.args.opened.now.entries c.pop_first.new.self.entries c.pop_first.ensures.removal c.pop_first.ensures.all_above

pub returns-else-is_due-clause-none : goal.returns-else-is_due-clause-none
returns-else-is_due-clause-none c =
    let w = c.args.w.now in
    let t = c.args.watermark in
    let s = c.in_ok-start.start.now in
    let fits : FitsSigned w64 t = c.ranges.watermark in
    let start_fits : FitsSigned w64 s = search rules in
    let is : c.is_due.result ≡ is_due w t s = c.is_due.ensures ∙ (λ i. is_due w (to_z-of_z w64 t fits i) (to_z-of_z w64 s start_fits i)) in
    none_due w t s c.args.opened.now.entries c.in_ok-start.ensures.all_from (sym is ∙ c.if-is_due.false)
