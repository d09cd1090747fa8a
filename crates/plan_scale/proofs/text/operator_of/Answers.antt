use Rattle.std.proofs.Common.{rules, refl}
use Rattle.json_parts.specs.Parts.{whole_at}
use Rattle.plan_scale.specs.ScaleText.{operator_text}
use Rattle.plan_scale.proofs.text.operator_of.Goals as goal

pub returns-then-not-has_only : goal.returns-then-not-has_only
unfolding operator_text
returns-then-not-has_only c = rw (operator_text, ← c.if-not-has_only.ensures) refl

pub returns-in_err-whole : goal.returns-in_err-whole
unfolding operator_text whole_at
returns-in_err-whole c = rw (operator_text, ← c.if-not-has_only.ensures) (search rules)

pub returns : goal.returns
unfolding operator_text
returns c = rw (operator_text, ← c.if-not-has_only.ensures, c.in_ok-whole.ensures, c.in_ok-flag_or.ensures) (search rules)
