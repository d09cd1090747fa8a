use Rattle.receipts.proofs.Shapes.{shape}
use Rattle.receipts.proofs.reading.read_receipt.Goals as goal

pub returns-in-Ok-clause-sources : goal.returns-in-Ok-clause-sources
returns-in-Ok-clause-sources c = shape c.args.sources.now c.args.bytes.now c.in-Ok.receipt c.in-Ok.ensures
