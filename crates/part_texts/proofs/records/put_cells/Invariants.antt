use Rattle.std.proofs.Common.{◌≡◌, ℕ, [], ◌∷◌, ◌++◌, ◌+◌, ◌-◌, ◌*◌, ◌≤◌, drop, get_or}
use Rattle.std.specs.Fmt.{signed_decimal}
use Rattle.std.specs.List.{flat_map, range_with_len}
use Rattle.std.specs.Str.{IsAscii}
use Rattle.plain_data.specs.Record.{at}
use Rattle.part_texts.proofs.records.put_cells.Given as goal

abbrev pub invariant-loop-left : goal.invariant-loop-left
invariant-loop-left l = record {
  few : l.left ≤ l.batch.width;
  moved : l.start + (l.batch.width - l.left) ≤ l.fn.end;
  room : l.fn.end ≤ l.start + 21 * (l.batch.width - l.left);
  written : drop l.start l.line ≡ flat_map (λ (k : ℕ). 44 ∷ signed_decimal (at k (get_or l.batch.rows l.row []))) (drop l.left (range_with_len 0 l.batch.width)) ++ drop l.fn.end l.fn.line;
  ascii : IsAscii (flat_map (λ (k : ℕ). 44 ∷ signed_decimal (at k (get_or l.batch.rows l.row []))) (drop l.left (range_with_len 0 l.batch.width)));
}

abbrev pub decreases-loop-left : goal.decreases-loop-left
decreases-loop-left l = l.left
