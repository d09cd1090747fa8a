use Rattle.std.proofs.Common.{[]}
use Rattle.import_asides.proofs.bad.BadRecords.new.Goals as goal

pub returns-clause-names : goal.returns-clause-names
returns-clause-names g c = c.in_ok-put_fields.ensures.written (g.W.Write.contents c.args.out) [] c.in_ok-writer.ensures.written
