use Rattle.csv.specs.Records.{fields_of}
use Rattle.imports.proofs.Readings.{read_row}
use Rattle.imports.proofs.reader.CsvReader.read.Goals as goal

pub returns-in-Ok-clause-reads : goal.returns-in-Ok-clause-reads
returns-in-Ok-clause-reads g c separator state text stands =
    let reads = rw c.deref_mut.ensures.value at c.in-Ok.ensures.reads in
    let on = rw c.deref_mut.ensures.value at c.in-Ok.ensures.reads_on in
    read_row g.R.Read.remaining c.args.self.now _ c.in-Ok.is_there (fields_of c.read_byte_record.new.row) separator state text stands (reads stands.trim stands.ready) on
