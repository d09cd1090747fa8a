use Rattle.std.proofs.Common.{◌≡◌, map, drop}
use Rattle.serde_json.specs.View.{view}
use Rattle.json_parts.specs.Parts.{each}
use Rattle.json_parts.proofs.Facts.{with_front}
use Rattle.leg_lists.specs.LegsText.{leg_text, leg_said}
use Rattle.leg_lists.proofs.text.texts_of.Given as goal

abbrev pub invariant-loop-value : goal.invariant-loop-value
invariant-loop-value l =
    with_front (map leg_said l.texts.items) (each leg_text (map view (drop l.value-index l.values))) ≡ each leg_text (map view l.values)
