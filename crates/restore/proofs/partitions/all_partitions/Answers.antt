use Rattle.restore.proofs.Folded.{all_reached}
use Rattle.restore.proofs.partitions.all_partitions.Goals as goal

pub returns-clause-watermark : goal.returns-clause-watermark
returns-clause-watermark c = (all_reached c.args.saved.now c.args.sources.now c.with_sources.result c.with_sources.ensures).0

pub returns-clause-records : goal.returns-clause-records
returns-clause-records c = (all_reached c.args.saved.now c.args.sources.now c.with_sources.result c.with_sources.ensures).1
