use Rattle.std.proofs.Common.{arith}
use Rattle.std.proofs.lemmas.List.{length-map}
use Rattle.part_texts.specs.Streams.{state_of, states_of}
use Rattle.part_texts.proofs.Steps.{none_done, part_done, all_done}
use Rattle.part_texts.specs.PartTexts.{with_words}
use Rattle.part_texts.proofs.parts.push_all.Goals as goal

pub loop-place-init : goal.loop-place-init
loop-place-init g c = none_done (λ i p. with_words c.args.words.now p) (states_of g.W.Write.contents c.args.texts.now)

pub loop-place-preserved : goal.loop-place-preserved
loop-place-preserved g c =
    part_done (state_of g.W.Write.contents) (λ i p. with_words c.args.words.now p) c.loop-place.place c.args.texts.now c.loop-place.texts c.index-texts-place.result c.push.new.self (omega arith) c.in_ok-push.ensures c.loop-place.invariant

pub returns : goal.returns
returns g c = all_done (λ i p. with_words c.args.words.now p) c.loop-place.place (states_of g.W.Write.contents c.args.texts.now) (states_of g.W.Write.contents c.loop-place.texts) (omega (arith, length-map c.args.texts.now (state_of g.W.Write.contents))) c.loop-place.invariant
