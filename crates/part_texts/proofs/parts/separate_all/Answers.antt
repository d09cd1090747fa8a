use Rattle.std.proofs.Common.{◌≡◌, arith}
use Rattle.std.specs.Prelude.{codes}
use Rattle.std.proofs.lemmas.Bool.Decides.{nat_tests}
use Rattle.std.proofs.lemmas.Result.{on_ok_weaker}
use Rattle.cut_texts.specs.Words.{before_part}
use Rattle.part_texts.specs.Streams.{states_of}
use Rattle.part_texts.proofs.Steps.{words_more, grow_is}
use Rattle.part_texts.proofs.parts.separate_all.Goals as goal
use Rattle.part_texts.proofs.parts.separate_all.Goals.{then-place-eq0, else-place-eq0}

pub returns : goal.returns
returns g c =
    let words = c.if-place-eq0.push_all.now in
    let old = states_of g.W.Write.contents c.args.texts.now in
    let new = states_of g.W.Write.contents c.push_all.new.texts in
    let is : words ≡ before_part (codes ",") c.args.place = elim c.if-place-eq0.branch [ then-place-eq0 w ↦ grind (arith, nat_tests) | else-place-eq0 w ↦ grind (arith, nat_tests) ] in
    on_ok_weaker c.push_all.result
    (λ h. grow_is (λ i. words) (λ i. before_part (codes ",") c.args.place) old new (λ i. is) (words_more words old new h))
    c.push_all.ensures
