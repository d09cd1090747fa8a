use Rattle.std.proofs.Common.{◌∙◌, subst}
use Rattle.std.specs.Io.KnownBytes.{Appends}
use Rattle.csv.specs.Writing.{default_writer, fields_written, has_written, tail_text, text_written}
use Rattle.import_asides.proofs.Steps.{between, held, record_more}
use Rattle.import_asides.proofs.writer.CsvWriter.end_record.Goals as goal

pub returns-in-Ok-clause-written : goal.returns-in-Ok-clause-written
returns-in-Ok-clause-written g c start records fields h =
    let contents = g.W.Write.contents in
    let old = c.deref_mut.result.now in
    let new = c.end_record.new.self in
    let gives = c.in-Ok.ensures in
    let had = held contents start records fields c.args.self.now old c.deref_mut.ensures.value h in
    let ends : Appends (text_written contents old) (text_written contents new) (tail_text default_writer (has_written old) (fields_written old)) =
    subst (λ setup. Appends (text_written contents old) (text_written contents new) (tail_text setup (has_written old) (fields_written old))) had.0.setup gives.bytes in
    record {
      behind = between new (gives.same ∙ had.0.setup) gives.fields gives.wrote;
      text = record_more start (text_written contents old) (text_written contents new) records fields old had.0 had.1 ends;
    }
