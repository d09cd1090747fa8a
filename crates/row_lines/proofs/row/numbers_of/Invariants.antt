use Rattle.std.proofs.Common.{◌≡◌, ◌≤◌, length, map, FitsSigned}
use mir.Syntax.{w128}
use Rattle.std.specs.List.{All}
use Rattle.std.specs.Fmt.{signed_decimal}
use Rattle.row_lines.proofs.row.numbers_of.Given as goal

abbrev pub invariant-loop-part : goal.invariant-loop-part
invariant-loop-part l = record {
  texts : map signed_decimal l.numbers.items ≡ map (λ part. part.now) l.yielded;
  fit : All (FitsSigned w128) l.numbers.items;
  few : length l.numbers.items ≤ 11;
}
