use Rattle.std.proofs.Common.{◌≡◌, ◌∷◌, ◌+◌, ◌-◌, ◌*◌, ◌≤◌, length, drop}
use Rattle.std.specs.List.{flat_map}
use Rattle.std.specs.Str.{IsAscii}
use Rattle.plain_data.specs.Record.{Record}
use Rattle.part_texts.specs.InputTexts.{record_text}
use Rattle.part_texts.proofs.records.put_records.Given as goal

abbrev pub invariant-loop-left : goal.invariant-loop-left
invariant-loop-left l = record {
  few : l.left ≤ length l.batch.rows;
  moved : l.start + (length l.batch.rows - l.left) ≤ length l.line;
  room : l.left * (21 * l.batch.width + 2) ≤ l.start;
  written : drop l.start l.line ≡ flat_map (λ (r : Record). 44 ∷ record_text l.batch.width r) (drop l.left l.batch.rows);
  ascii : IsAscii (flat_map (λ (r : Record). 44 ∷ record_text l.batch.width r) (drop l.left l.batch.rows));
}

abbrev pub decreases-loop-left : goal.decreases-loop-left
decreases-loop-left l = l.left
