use Rattle.std.proofs.Common.{◌-◌, drop, arith, take_all, length-drop}
use Rattle.std.proofs.lemmas.Str.{IsUtf8-from_ascii}
use Rattle.job_texts.proofs.text.write_narrow.Goals as goal

pub from_utf8_unchecked-requires : goal.from_utf8_unchecked-requires
from_utf8_unchecked-requires c =
    let w = c.put_line-start in
    IsUtf8-from_ascii _ (rw (take_all (256 - w.result) (drop w.result w.new.line) (omega (arith, length-drop w.result w.new.line)), w.ensures.written) w.ensures.ascii)
