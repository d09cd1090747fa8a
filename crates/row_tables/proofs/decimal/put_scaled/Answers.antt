use Rattle.std.proofs.Common.{rules}
use Rattle.row_tables.proofs.Decimals.{reads, is_plain}
use Rattle.row_tables.proofs.decimal.put_scaled.Goals as goal

pub returns-clause-said : goal.returns-clause-said
returns-clause-said c = reads c.args.places c.args.number (search rules) (search rules)

pub returns-clause-plain : goal.returns-clause-plain
returns-clause-plain c = is_plain c.args.places c.args.number (search rules) (search rules)
