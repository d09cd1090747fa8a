use Rattle.import_fates.proofs.Totals.{with_written, with_late, with_twice, with_bad}
use Rattle.import_fates.proofs.counts.FateCounts.add.Goals as goal

pub returns-in-Written : goal.returns-in-Written
returns-in-Written c fates e = rw c.in-Written.is (with_written fates c.args.self.now _ e c.saturating_add-self.ensures)

pub returns-in-Late : goal.returns-in-Late
returns-in-Late c fates e = rw c.in-Late.is (with_late fates c.args.self.now _ e c.saturating_add-self-in-Late.ensures)

pub returns-in-Twice : goal.returns-in-Twice
returns-in-Twice c fates e = rw c.in-Twice.is (with_twice fates c.args.self.now _ e c.saturating_add-self-in-Twice.ensures)

pub returns-in-Bad : goal.returns-in-Bad
returns-in-Bad c fates e = rw c.in-Bad.is (with_bad fates c.args.self.now _ e c.saturating_add-self-in-Bad.ensures)
