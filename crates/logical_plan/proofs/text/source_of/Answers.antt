use Rattle.std.proofs.Common.{rules, refl}
use Rattle.logical_plan.specs.PlanText.{source_text}
use Rattle.logical_plan.proofs.text.source_of.Goals as goal

pub returns-then-not-has_only : goal.returns-then-not-has_only
unfolding source_text
returns-then-not-has_only c = rw (source_text, ← c.if-not-has_only.ensures) refl

pub returns-in_err-whole : goal.returns-in_err-whole
unfolding source_text
returns-in_err-whole c = rw (source_text, ← c.if-not-has_only.ensures, c.in_ok-uid.ensures) (search rules)

pub returns : goal.returns
unfolding source_text
returns c = rw (source_text, ← c.if-not-has_only.ensures, c.in_ok-uid.ensures, c.in_ok-whole.ensures, c.in_ok-bound_in.ensures) (search rules)
