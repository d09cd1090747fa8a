use Rattle.std.proofs.Common.{◌∙◌, subst, w64}
use Rattle.std.specs.Prelude.{codes}
use Rattle.std.specs.Fmt.{signed_decimal}
use Rattle.std.specs.Io.KnownBytes.{Appends}
use Rattle.std.proofs.lemmas.Int.{to_z-of_z}
use Rattle.std.proofs.lemmas.Result.{on_ok_weaker}
use Rattle.part_texts.specs.InputTexts.{mark_name}
use Rattle.part_texts.specs.Streams.{text_of}
use Rattle.part_texts.proofs.Steps.{entry_put}
use Rattle.part_texts.proofs.part.PartText.push_mark.Goals as goal

pub returns : goal.returns
returns g c =
    let named = text_of g.W.Write.contents c.put_mark_name.new.self in
    let numbered = text_of g.W.Write.contents c.put_number.new.self in
    let number : Appends named numbered (signed_decimal c.args.time) =
    subst (λ z. Appends named numbered (signed_decimal z)) (to_z-of_z w64 c.args.time c.ranges.time) c.in_ok-put_number.ensures.appends in
    on_ok_weaker c.put.result
    (entry_put (text_of g.W.Write.contents c.args.self.now) (text_of g.W.Write.contents c.separate.new.self) named numbered (text_of g.W.Write.contents c.put.new.self)
    c.args.self.now.is_first c.put.new.self.is_first mark_name (signed_decimal c.args.time) (codes "}")
    (c.put.ensures.first ∙ c.put_number.ensures.first ∙ c.put_mark_name.ensures.first ∙ c.in_ok-separate.ensures.first)
    c.in_ok-separate.ensures.appends c.in_ok-put_mark_name.ensures.appends number)
    c.put.ensures.appends
