use Rattle.input_texts.specs.Answer.{input_of_bytes}
use Rattle.stream_input.proofs.FitAnswers.{text_said}
use Rattle.stream_input.proofs.reading.sources_after.Goals as goal

pub orderly-requires : goal.orderly-requires
orderly-requires c = let read = (rw c.in-Ok.is at c.requires) in (read.0, read.2)

pub returns-in-Ok-clause-reads : goal.returns-in-Ok-clause-reads
unfolding input_of_bytes
returns-in-Ok-clause-reads c =
    let read = (rw c.in-Ok.is at c.requires) in
    rw (text_said c.args.bytes.now read.0 read.1) (c.orderly.ensures read.0 read.2)
