use Rattle.std.proofs.Common.{◌∙◌}
use Rattle.receipts.proofs.Records.{all_counted}
use Rattle.receipts.proofs.counting.count_records.Goals as goal

pub returns : goal.returns
returns c = c.with_sources.ensures ∙ all_counted c.args.sources.now c.args.cut.now
