use Rattle.std.proofs.Common.{◌≡◌, ℕ, [], ◌∷◌, ◌+◌, ◌-◌, ◌*◌, ◌≤◌, length, drop, get_or}
use Rattle.std.specs.List.{flat_map}
use Rattle.part_texts.specs.InputTexts.{record_text}
use Rattle.part_texts.proofs.records.put_records_at.Given as goal

abbrev pub invariant-loop-left : goal.invariant-loop-left
invariant-loop-left l = record {
  few : l.left ≤ length l.places;
  moved : l.start + (length l.places - l.left) ≤ length l.line;
  room : l.left * (21 * l.batch.width + 2) ≤ l.start;
  written : drop l.start l.line ≡ flat_map (λ (k : ℕ). 44 ∷ record_text l.batch.width (get_or l.batch.rows k [])) (drop l.left l.places);
}

abbrev pub decreases-loop-left : goal.decreases-loop-left
decreases-loop-left l = l.left
