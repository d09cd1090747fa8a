use Rattle.std.proofs.Common.{refl}
use Rattle.imports.proofs.Advances.{fault_kept, at_once, some_there, one_picked}
use Rattle.imports.proofs.records.CsvRows.advance_picked.Goals as goal

pub returns-in-Err : goal.returns-in-Err
returns-in-Err g c asked rest stands = fault_kept g.R.Read.remaining asked c.args.picks.now rest c.advance.new.self c.in-Err.fault (c.in-Err.ensures.row asked rest stands)

pub returns-in-Ok-false : goal.returns-in-Ok-false
returns-in-Ok-false g c asked rest stands = rw c.in-Ok-false.field-0-test at c.in-Ok-false.ensures.row asked rest stands

pub returns-then-is_empty : goal.returns-then-is_empty
returns-then-is_empty g c asked rest stands =
    at_once g.R.Read.remaining asked c.args.picks.now rest c.advance.new.self c.if-is_empty.ensures (rw c.in-Ok-true.field-0-test at c.in-Ok-true.ensures.row asked rest stands)

pub returns : goal.returns
returns g c asked rest stands =
    one_picked g.R.Read.remaining asked c.args.picks.now rest c.args.self.now c.advance.new.self _ stands (rw c.in-Ok-true.field-0-test at c.in-Ok-true.ensures.row asked rest stands) c.in-Ok-true.ensures.kept
    (some_there c.args.picks.now c.if-is_empty.ensures) refl refl refl c.in_ok-fill_picked.ensures
