use Rattle.std.proofs.Common.{◌≡◌, ◌+◌, ◌-◌, ◌*◌, ◌≤◌, ◌++◌, length, drop}
use Rattle.std.specs.List.{flat_map}
use Rattle.std.specs.Str.{IsAscii}
use Rattle.job_texts.specs.Text.{spaced}
use Rattle.job_texts.proofs.narrow.put_numbers.Given as goal

abbrev pub invariant-loop-left : goal.invariant-loop-left
invariant-loop-left l = record {
  few : l.left ≤ length l.numbers;
  below : l.start ≤ l.fn.end;
  room : l.fn.end ≤ l.start + 21 * (length l.numbers - l.left);
  written : drop l.start l.line ≡ flat_map spaced (drop l.left l.numbers) ++ drop l.fn.end l.fn.line;
  ascii : IsAscii (flat_map spaced (drop l.left l.numbers));
}

abbrev pub decreases-loop-left : goal.decreases-loop-left
decreases-loop-left l = l.left
