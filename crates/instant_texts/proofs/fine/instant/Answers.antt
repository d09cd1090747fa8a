use Rattle.std.proofs.Common.{ℕ, ℤ, List, Result, ap, sym, ◌∙◌}
use Rattle.field_values.specs.declared.fault.FieldFault.{FieldFault}
use Rattle.field_values.specs.Instants.{clock_text, zone_text}
use Rattle.instant_texts.specs.Instants.{unit_digits, whole_said, instant_from}
use Rattle.instant_texts.proofs.Forms.{instant_by_parts, no_instant}
use Rattle.instant_texts.proofs.fine.instant.Goals as goal

pub returns-in_default : goal.returns-in_default
returns-in_default c = sym (no_instant (unit_digits c.args.unit) c.args.text.now c.in_default.ensures.none)

pub returns : goal.returns
returns c =
    let text = c.args.text.now in
    let count = unit_digits c.args.unit in
    let parts = c.in-Some.ensures.parts in
    let whole = c.whole_second-whole.ensures ∙ ap (λ (l : List ℕ). whole_said l c.in-Some.parts.zone.now) parts.0 ∙ ap (λ (l : List ℕ). whole_said (clock_text text) l) parts.2 in
    c.instant_from.ensures
    ∙ ap (λ (r : Result ℤ FieldFault). instant_from count c.in-Some.parts.fraction.now r) whole
    ∙ ap (λ (l : List ℕ). instant_from count l (whole_said (clock_text text) (zone_text text))) parts.1
    ∙ instant_by_parts c.args.unit text parts.3
