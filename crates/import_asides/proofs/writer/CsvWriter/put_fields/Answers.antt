use Rattle.std.proofs.Common.{[], map}
use Rattle.import_asides.proofs.Steps.{held, line_put}
use Rattle.import_asides.proofs.writer.CsvWriter.put_fields.Goals as goal

pub returns-in-Ok-clause-written : goal.returns-in-Ok-clause-written
returns-in-Ok-clause-written g c start records h =
    let contents = g.W.Write.contents in
    let old = c.deref_mut.result.now in
    let gives = c.in-Ok.ensures in
    let had = held contents start records [] c.args.self.now old c.deref_mut.ensures.value h in
    let line = line_put contents start records (map (λ field. field.now) c.args.fields.now) old c.write_fields.new.self had.0 had.1 gives.setup gives.ended gives.clean gives.bytes in
    record { behind = line.0; text = line.1 }
