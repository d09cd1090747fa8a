use Rattle.std.proofs.Common.{◌≡◌, ◌++◌, length, subst}
use Rattle.std.specs.Prelude.{not, ◌==◌}
use Rattle.std.specs.Io.KnownBytes.{Appends}
use Rattle.csv.specs.Writing.{default_writer, field_text, fields_written, has_written, next_sep, text_written, writer_setup}
use Rattle.import_asides.proofs.Steps.{behind_more, field_more, held, plain}
use Rattle.import_asides.proofs.writer.CsvWriter.put.Goals as goal

pub returns-in-Ok-clause-written : goal.returns-in-Ok-clause-written
returns-in-Ok-clause-written g c start records fields h =
    let contents = g.W.Write.contents in
    let old = c.deref_mut.result.now in
    let new = c.write_field.new.self in
    let text = c.args.text.now in
    let gives = c.in-Ok.ensures in
    let had = held contents start records fields c.args.self.now old c.deref_mut.ensures.value h in
    let setup_is = had.0.setup in
    let style_is = plain (writer_setup old) setup_is in
    let puts : Appends (text_written contents old) (text_written contents new) (next_sep default_writer (fields_written old) ++ field_text default_writer text) =
    subst (λ setup. Appends (text_written contents old) (text_written contents new) (next_sep setup (fields_written old) ++ field_text setup text)) setup_is (gives.text style_is) in
    record {
      behind = behind_more fields text old new had.0 gives.same gives.count (λ clean. subst (λ setup. has_written new ≡ not (length (field_text setup text) == 0)) setup_is (gives.wrote clean style_is)) gives.stays;
      text = field_more start (text_written contents old) (text_written contents new) records fields text (fields_written old) had.0.count had.1 puts;
    }
