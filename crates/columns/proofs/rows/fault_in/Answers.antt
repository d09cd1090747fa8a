use Rattle.std.proofs.Common.{sym, Some}
use Rattle.columns.proofs.Faults.{first_fault_is, first_fault-many, first_fault-none}
use Rattle.columns.proofs.rows.fault_in.Goals as goal

pub returns-in-Some-clause-first : goal.returns-in-Some-clause-first
returns-in-Some-clause-first c = sym (first_fault_is c.args.rows.now c.args.width (Some c.in-Some.row) c.in-Some.ensures.first)

pub returns-then-rows-gt-MOST_ROWS-clause-first : goal.returns-then-rows-gt-MOST_ROWS-clause-first
returns-then-rows-gt-MOST_ROWS-clause-first c = sym (first_fault-many c.args.rows.now c.args.width c.in_default.ensures.first c.if-rows-gt-MOST_ROWS.true)

pub returns-clause-first : goal.returns-clause-first
returns-clause-first c = sym (first_fault-none c.args.rows.now c.args.width c.in_default.ensures.first c.if-rows-gt-MOST_ROWS.false)
