use Rattle.std.proofs.Common.{arith}
use Rattle.part_texts.specs.Streams.{stream_of, text_of}
use Rattle.part_texts.proofs.Steps.{none_ended, one_ended}
use Rattle.part_texts.proofs.parts.finish_all.Goals as goal

pub loop-place-init : goal.loop-place-init
loop-place-init g c = none_ended (text_of g.W.Write.contents) (λ part. g.W.Write.contents (stream_of part)) c.args.texts.now

pub loop-place-preserved : goal.loop-place-preserved
loop-place-preserved g c =
    one_ended (text_of g.W.Write.contents) (λ part. g.W.Write.contents (stream_of part)) c.loop-place.place c.args.texts.now c.loop-place.texts c.index-texts-place.result c.finish.new.self (omega arith) c.in_ok-finish.ensures c.loop-place.invariant

pub returns : goal.returns
returns g c = record { same = c.loop-place.invariant.same; each = λ i h. c.loop-place.invariant.done i (omega arith) }
