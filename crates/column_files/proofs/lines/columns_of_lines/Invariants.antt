use Rattle.std.proofs.Common.{◌≡◌, take}
use Rattle.std.specs.List.{flat_map}
use Rattle.column_files.specs.Lines.{column_byte}
use Rattle.column_files.proofs.lines.columns_of_lines.Given as goal

abbrev pub invariant-loop-byte : goal.invariant-loop-byte
invariant-loop-byte l = l.word.items ≡ flat_map column_byte (take l.byte-index l.text)
