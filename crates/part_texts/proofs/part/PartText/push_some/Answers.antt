use Rattle.std.proofs.Common.{◌∙◌}
use Rattle.std.specs.Prelude.{codes}
use Rattle.std.proofs.lemmas.Result.{on_ok_weaker}
use Rattle.key_dealing.specs.Dealing.{rows_at}
use Rattle.part_texts.specs.InputTexts.{records_text}
use Rattle.part_texts.specs.Streams.{text_of}
use Rattle.part_texts.proofs.Steps.{entry_put}
use Rattle.part_texts.proofs.part.PartText.push_some.Goals as goal

pub returns : goal.returns
returns g c =
    on_ok_weaker c.put-2.result
    (entry_put (text_of g.W.Write.contents c.args.self.now) (text_of g.W.Write.contents c.separate.new.self) (text_of g.W.Write.contents c.put.new.self) (text_of g.W.Write.contents c.put_rows.new.self) (text_of g.W.Write.contents c.put-2.new.self)
    c.args.self.now.is_first c.put-2.new.self.is_first (codes "{\"rows\":[") (records_text c.args.batch.now.width (rows_at c.args.batch.now.rows c.args.places.now)) (codes "]}")
    (c.put-2.ensures.first ∙ c.put_rows.ensures.first ∙ c.put.ensures.first ∙ c.in_ok-separate.ensures.first)
    c.in_ok-separate.ensures.appends c.in_ok-put.ensures.appends c.in_ok-put_rows.ensures.appends)
    c.put-2.ensures.appends
