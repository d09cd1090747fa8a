use Rattle.std.proofs.Common.{arith}
use Rattle.import_fates.proofs.Totals.{all_counted}
use Rattle.import_fates.proofs.counts.FateCounts.records.Goals as goal

pub returns : goal.returns
returns c fates e small = let all = all_counted fates c.args.self.now e small in omega (arith, all, c.saturating_add.ensures, c.saturating_add-2.ensures, c.saturating_add-3.ensures)
