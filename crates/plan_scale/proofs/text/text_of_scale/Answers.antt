use Rattle.std.proofs.Common.{rules, refl}
use Rattle.plan_scale.specs.ScaleText.{scale_text}
use Rattle.plan_scale.proofs.text.text_of_scale.Goals as goal

pub returns-then-not-has_only : goal.returns-then-not-has_only
unfolding scale_text
returns-then-not-has_only c = rw (scale_text, ← c.if-not-has_only.ensures) refl

pub returns : goal.returns
unfolding scale_text
returns c = rw (scale_text, ← c.if-not-has_only.ensures, c.in_ok-whole.ensures, c.in_ok-operators_in.ensures) (search rules)
