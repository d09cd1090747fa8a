use Rattle.row_lines.proofs.Places.{kept_and_consumed}
use Rattle.row_lines.proofs.lines.read_chunk.Goals as goal

pub returns-in-Ok-clause-bytes : goal.returns-in-Ok-clause-bytes
returns-in-Ok-clause-bytes g c = kept_and_consumed _ _ _ _ c.loop.invariant c.in-Ok.ensures.bytes.0
