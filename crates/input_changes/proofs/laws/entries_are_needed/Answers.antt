use Rattle.input_changes.proofs.Examples.{entries_are_needed}
use Rattle.input_changes.proofs.laws.entries_are_needed.Goals as goal

pub returns : goal.returns
returns c = entries_are_needed
