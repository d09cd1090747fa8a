use Rattle.std.proofs.Common.{arith}
use Rattle.row_lines.proofs.Sizes.{size_counted, size_read}
use Rattle.row_lines.proofs.number.size_front.Goals as goal

pub with_rest-requires : goal.with_rest-requires
with_rest-requires c =
    let found = c.in-Some.ensures in
    record { within = omega (arith, found.more); size = size_counted c.args.text.now c.in-Some.count c.in-Some.size found.counted (omega (arith, found.few)) found.says }

pub with_rest-requires-2 : goal.with_rest-requires-2
with_rest-requires-2 c =
    let read = c.read_digits-count.ensures in
    record {
      within = read.within;
      size = size_read c.args.text.now c.read_digits-count.result.0 c.read_digits-count.result.1 read.end c.if-count-gt-MOST_DIGITS.false read.value;
    }
