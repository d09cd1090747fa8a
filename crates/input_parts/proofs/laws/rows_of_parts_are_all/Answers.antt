use Rattle.input_parts.proofs.All.{rows_of_parts_are_all}
use Rattle.input_parts.proofs.laws.rows_of_parts_are_all.Goals as goal

pub returns : goal.returns
returns c = rows_of_parts_are_all
