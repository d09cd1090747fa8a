use Rattle.input_parts.proofs.Own.{parts_keep_their_own}
use Rattle.input_parts.proofs.laws.parts_keep_their_own.Goals as goal

pub returns : goal.returns
returns c = parts_keep_their_own
