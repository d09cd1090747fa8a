use Rattle.std.proofs.Common.{◌≡◌, take, string_bytes}
use Rattle.job_texts.specs.Front.{IsFront}
use Rattle.job_texts.specs.Text.{text_of_rows}
use Rattle.job_texts.proofs.text.text_of_rows.Given as goal

abbrev pub invariant-loop-row : goal.invariant-loop-row
invariant-loop-row l = record {
  front : IsFront l.front;
  written : string_bytes l.text ≡ text_of_rows (take l.row-index l.rows);
}
