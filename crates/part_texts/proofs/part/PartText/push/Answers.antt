use Rattle.std.proofs.Common.{refl}
use Rattle.std.proofs.KnownBytes.{Appends-trans}
use Rattle.part_texts.specs.Streams.{text_of}
use Rattle.part_texts.proofs.part.PartText.push.Goals as goal

pub returns : goal.returns
returns g c start p s =
    (Appends-trans start (text_of g.W.Write.contents c.args.self.now) (text_of g.W.Write.contents c.put.new.self) p.text c.args.words.now s.0 c.in_ok-put.ensures.appends, refl)
