use Rattle.std.proofs.Common.{◌≡◌, map, drop}
use Rattle.serde_json.specs.View.{view}
use Rattle.json_parts.specs.Parts.{each}
use Rattle.json_parts.proofs.Facts.{with_front}
use Rattle.leg_lists.specs.ChoicesText.{choice_text}
use Rattle.leg_lists.proofs.choices.choices_of.Given as goal

abbrev pub invariant-loop-value : goal.invariant-loop-value
invariant-loop-value l = with_front l.choices.items (each choice_text (map view (drop l.value-index l.values))) ≡ each choice_text (map view l.values)
