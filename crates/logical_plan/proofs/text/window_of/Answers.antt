use Rattle.std.proofs.Common.{◌≡◌, Some, codes, rules, refl}
use Rattle.serde_json.specs.View.{view}
use Rattle.json_parts.specs.Parts.{whole_or}
use Rattle.logical_plan.specs.PlanText.{window_text}
use Rattle.logical_plan.proofs.text.window_of.Goals as goal

pub returns-then-not-has_only : goal.returns-then-not-has_only
unfolding window_text
returns-then-not-has_only c = rw (window_text, ← c.if-not-has_only.ensures) refl

pub returns-in_err-list_or_empty : goal.returns-in_err-list_or_empty
unfolding window_text
returns-in_err-list_or_empty c =
    let slide : whole_or (codes "slide") c.in_ok-size.size (view c.args.value.now) ≡ Some c.in_ok-whole_or.field-0 = search (rules, c.in_ok-whole_or.ensures) in
    rw (window_text, ← c.if-not-has_only.ensures, c.in_ok-uid.ensures, c.in_ok-size.ensures, slide, c.in_ok-whole_or-2.ensures, c.in_ok-list_of.ensures) (search rules)

pub returns : goal.returns
unfolding window_text
returns c =
    let slide : whole_or (codes "slide") c.in_ok-size.size (view c.args.value.now) ≡ Some c.in_ok-whole_or.field-0 = search (rules, c.in_ok-whole_or.ensures) in
    rw (window_text, ← c.if-not-has_only.ensures, c.in_ok-uid.ensures, c.in_ok-size.ensures, slide, c.in_ok-whole_or-2.ensures, c.in_ok-list_of.ensures, c.in_ok-list_or_empty.ensures) (search rules)
