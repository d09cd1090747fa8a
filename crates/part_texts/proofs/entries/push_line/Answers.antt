use Rattle.std.proofs.Common.{◌-◌, length, drop, arith, take_all, length-drop}
use Rattle.std.proofs.lemmas.Str.{IsUtf8-from_ascii}
use Rattle.part_texts.proofs.entries.push_line.Goals as goal

pub from_utf8_unchecked-requires : goal.from_utf8_unchecked-requires
from_utf8_unchecked-requires c =
    let w = c.put_records-start in
    IsUtf8-from_ascii _ (rw (take_all (length w.new.line - w.result) (drop w.result w.new.line) (omega (arith, length-drop w.result w.new.line)), w.ensures.written) w.ensures.ascii)
