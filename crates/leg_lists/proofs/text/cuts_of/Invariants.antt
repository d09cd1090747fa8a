use Rattle.std.proofs.Common.{◌≡◌, map, drop}
use Rattle.serde_json.specs.View.{view}
use Rattle.json_parts.specs.Parts.{each}
use Rattle.json_parts.proofs.Facts.{with_front}
use Rattle.leg_lists.specs.LegsText.{cut_text}
use Rattle.leg_lists.proofs.text.cuts_of.Given as goal

abbrev pub invariant-loop-value : goal.invariant-loop-value
invariant-loop-value l = with_front l.cuts.items (each cut_text (map view (drop l.value-index l.values))) ≡ each cut_text (map view l.values)
