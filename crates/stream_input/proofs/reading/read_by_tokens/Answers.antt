use Rattle.stream_input.proofs.FitAnswers.{json_of_text}
use Rattle.stream_input.proofs.reading.read_by_tokens.Goals as goal

pub returns-in-Ok : goal.returns-in-Ok
returns-in-Ok c =
    rw (json_of_text c.args.bytes.now c.in-Ok.ensures.1) (rw c.in-Ok.ensures.0 at c.sources_in.ensures)
