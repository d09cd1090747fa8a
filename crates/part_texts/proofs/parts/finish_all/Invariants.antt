use Rattle.part_texts.specs.Streams.{stream_of, text_of}
use Rattle.part_texts.proofs.Steps.{Ended}
use Rattle.part_texts.proofs.parts.finish_all.Given as goal

abbrev pub invariant-loop-place : goal.invariant-loop-place
invariant-loop-place g l = Ended (text_of g.W.Write.contents) (λ part. g.W.Write.contents (stream_of part)) l.place l.fn.texts l.texts
