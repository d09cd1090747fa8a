use Rattle.std.proofs.Common.{ℕ, drop, ap, ◌∙◌}
use Rattle.field_values.specs.Instants.{begins_zone, zone_place}
use Rattle.instant_texts.proofs.Forms.{rest_first}
use Rattle.instant_texts.proofs.parts.parts_of.Goals as goal

pub returns-clause-zone : goal.returns-clause-zone
unfolding zone_place
returns-clause-zone c =
    let rest = c.split_at.result.1.now in
    ap zone_place (c.split_at-2.ensures.back ∙ ap (λ (k : ℕ). drop k rest) c.zone_place.ensures.place) ∙ rest_first begins_zone rest
