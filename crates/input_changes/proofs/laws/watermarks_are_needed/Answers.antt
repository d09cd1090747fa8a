use Rattle.input_changes.proofs.Examples.{watermarks_are_needed}
use Rattle.input_changes.proofs.laws.watermarks_are_needed.Goals as goal

pub returns : goal.returns
returns c = watermarks_are_needed
