use Rattle.std.proofs.Common.{◌<◌, length, arith}
use Rattle.std.proofs.lemmas.Bool.Decides.{nat_tests}
use Rattle.std.proofs.lemmas.Result.{on_ok_weaker}
use Rattle.part_texts.specs.Streams.{state_of}
use Rattle.part_texts.proofs.Steps.{some_rows}
use Rattle.part_texts.proofs.part.PartText.push_rows.Goals as goal

pub returns : goal.returns
returns g c =
    let some : 0 < length c.args.places.now = grind (arith, nat_tests) in
    on_ok_weaker c.push_some.result
    (some_rows c.args.batch.now c.args.places.now (state_of g.W.Write.contents c.args.self.now) (state_of g.W.Write.contents c.push_some.new.self) some)
    c.push_some.ensures
