use Rattle.part_texts.specs.PartTexts.{with_words}
use Rattle.part_texts.specs.Streams.{states_of}
use Rattle.part_texts.proofs.Steps.{Done}
use Rattle.part_texts.proofs.parts.push_all.Given as goal

abbrev pub invariant-loop-place : goal.invariant-loop-place
invariant-loop-place g l = Done (λ i p. with_words l.words p) l.place (states_of g.W.Write.contents l.fn.texts) (states_of g.W.Write.contents l.texts)
