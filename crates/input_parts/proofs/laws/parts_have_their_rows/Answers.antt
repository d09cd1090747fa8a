use Rattle.input_parts.proofs.Own.{parts_have_their_rows}
use Rattle.input_parts.proofs.laws.parts_have_their_rows.Goals as goal

pub returns : goal.returns
returns c = parts_have_their_rows
