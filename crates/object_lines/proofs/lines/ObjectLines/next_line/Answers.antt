use Rattle.std.proofs.Common.{◌≡◌, ◌<◌, nat_le, false, length, arith}
use Rattle.std.proofs.lemmas.Bool.Decides.{nat_tests}
use Rattle.std.specs.Io.Buffered.{reader_remaining}
use Rattle.object_lines.proofs.Splits.{at_end, one_line}
use Rattle.object_lines.proofs.lines.ObjectLines.next_line.Goals as goal

pub returns-in-Ok-eq0-clause-steps : goal.returns-in-Ok-eq0-clause-steps
returns-in-Ok-eq0-clause-steps g c left is =
    at_end (reader_remaining g.R.Read.remaining c.args.self.now.reader) c.args.self.now.number left (c.in-Ok-eq0.ensures.end c.in-Ok-eq0.field-0-test) is

pub returns-in-Ok-clause-steps : goal.returns-in-Ok-clause-steps
returns-in-Ok-clause-steps g c left is =
    let next = c.saturating_add-self.result in
    let first : nat_le next 1 ≡ nat_le c.args.self.now.number 0 = grind (arith, nat_tests) in
    let later : nat_le next 0 ≡ false = grind (arith, nat_tests) in
    let some : 0 < length c.read_until.new.buf.items = grind arith in
    one_line (reader_remaining g.R.Read.remaining c.args.self.now.reader) (reader_remaining g.R.Read.remaining c.read_until.new.self) c.args.self.now.number next c.read_until.new.buf.items left
    first later some (rw c.clear.ensures.items at c.in-Ok.ensures.bytes) c.in-Ok.ensures.rest is
