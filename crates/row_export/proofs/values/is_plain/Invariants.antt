use Rattle.std.proofs.Common.{◌≡◌, IsTrue, take, flat_map}
use Rattle.json.specs.Print.{escape_byte}
use Rattle.row_export.proofs.values.is_plain.Given as goal

abbrev pub invariant-loop-byte : goal.invariant-loop-byte
invariant-loop-byte l = IsTrue l.plain → flat_map escape_byte (take l.byte-index l.text) ≡ take l.byte-index l.text
