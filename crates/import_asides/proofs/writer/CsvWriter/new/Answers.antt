use Rattle.std.proofs.Common.{◌≡◌, ◌∙◌, ap}
use Rattle.csv.specs.Writing.{fields_written, has_written, writer_pending, writer_setup, writer_under}
use Rattle.import_asides.proofs.Steps.{begins, between}
use Rattle.import_asides.proofs.writer.CsvWriter.new.Goals as goal

pub returns-in-Ok-clause-written : goal.returns-in-Ok-clause-written
returns-in-Ok-clause-written g c =
    let out = c.in-Ok.writer.value in
    let is : out ≡ c.from_writer.result = c.in-Ok.ensures.ok in
    let made = c.from_writer.ensures in
    record {
      behind = between out (ap writer_setup is ∙ made.cfg ∙ c.new.ensures) (ap fields_written is ∙ made.fields) (ap has_written is ∙ made.wrote);
      text = begins g.W.Write.contents c.args.out out (ap writer_under is ∙ made.wtr) (ap writer_pending is ∙ made.empty);
    }
