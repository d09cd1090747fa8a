use Rattle.std.proofs.Common.{◌≡◌, map, take}
use Rattle.decimal_texts.specs.Points.{swapped}
use Rattle.decimal_texts.proofs.point.swap_points.Given as goal

abbrev pub invariant-loop-byte : goal.invariant-loop-byte
invariant-loop-byte l = l.swapped_text.items ≡ map swapped (take l.byte-index l.text)
