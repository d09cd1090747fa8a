use Rattle.std.proofs.Common.{rules, refl}
use Rattle.logical_plan.specs.PlanText.{plan_text}
use Rattle.logical_plan.proofs.text.text_of_plan.Goals as goal

pub returns-then-not-has_only : goal.returns-then-not-has_only
unfolding plan_text
returns-then-not-has_only c = rw (plan_text, ← c.if-not-has_only.ensures) refl

pub returns : goal.returns
unfolding plan_text
returns c =
    rw (plan_text, ← c.if-not-has_only.ensures, c.in_ok-whole.ensures, c.in_ok-whole-2.ensures, c.in_ok-whole-3.ensures, c.in_ok-whole-4.ensures, c.in_ok-list_of.ensures, c.in_ok-list_or_empty.ensures, c.in_ok-window_in.ensures) (search rules)
