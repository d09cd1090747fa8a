use Rattle.stream_input.proofs.Tables.{wide_all, sized_few}
use Rattle.stream_input.proofs.building.entry_of.Goals as goal

pub batch_of-requires-clause-wide : goal.batch_of-requires-clause-wide
batch_of-requires-clause-wide c = wide_all c.args.columns c.as_slice.result.now (rw c.as_slice.ensures (rw c.in-Rows.is at c.requires.wide))

pub batch_of-requires-clause-few : goal.batch_of-requires-clause-few
batch_of-requires-clause-few c = sized_few c.as_slice.result.now (rw c.as_slice.ensures (rw c.in-Rows.is at c.requires.sized))
