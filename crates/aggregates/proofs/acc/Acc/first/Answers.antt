use Rattle.std.proofs.Common.{[], get_or}
use Rattle.aggregates.proofs.Accs.{one_inside}
use Rattle.aggregates.proofs.acc.Acc.first.Goals as goal

pub invariant_of-result : goal.invariant_of-result
invariant_of-result c =
    one_inside c.as_slice-aggregates.result.now (get_or c.args.batch.now.rows c.args.row []) c.write_kinds.new.kinds c.write_numbers.new.numbers
    (rw c.as_slice-aggregates.ensures c.requires.some) (rw c.as_slice-aggregates.ensures c.requires.few) c.write_numbers.ensures.fit c.write_kinds.ensures c.write_numbers.ensures.written

pub returns-clause-sound : goal.returns-clause-sound
returns-clause-sound c =
    (one_inside c.as_slice-aggregates.result.now (get_or c.args.batch.now.rows c.args.row []) c.write_kinds.new.kinds c.write_numbers.new.numbers
    (rw c.as_slice-aggregates.ensures c.requires.some) (rw c.as_slice-aggregates.ensures c.requires.few) c.write_numbers.ensures.fit c.write_kinds.ensures c.write_numbers.ensures.written).sound
