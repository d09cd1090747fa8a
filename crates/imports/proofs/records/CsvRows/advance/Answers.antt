use Rattle.std.proofs.Common.{refl, false}
use Rattle.imports.proofs.Advances.{no_row, one_row}
use Rattle.imports.proofs.records.CsvRows.advance.Goals as goal

pub returns-clause-row : goal.returns-clause-row
returns-clause-row g c asked rest stands =
    one_row g.R.Read.remaining asked rest c.args.self.now (record { reader = c.read.new.self; «record» = c.read.new.record; width = c.args.self.now.width; picked = c.args.self.now.picked; joined = c.args.self.now.joined; is_picked = false }) c.check_width.new.self c.check_width.result
    stands refl refl (λ separator state text is. rw c.if-not-branch.false at c.in_ok-read.ensures.reads separator state text is) c.check_width.ensures

pub returns-then-not-branch-clause-row : goal.returns-then-not-branch-clause-row
returns-then-not-branch-clause-row g c asked rest stands =
    no_row g.R.Read.remaining asked rest c.args.self.now (record { reader = c.read.new.self; «record» = c.read.new.record; width = c.args.self.now.width; picked = c.args.self.now.picked; joined = c.args.self.now.joined; is_picked = false })
    stands (λ separator state text is. rw c.if-not-branch.true at c.in_ok-read.ensures.reads separator state text is)
