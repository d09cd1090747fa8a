use Rattle.std.proofs.Common.{ap, map}
use Rattle.receipts.specs.Read.{was_read_of}
use Rattle.receipts.proofs.laws.same_entries_are_read.Goals as goal

pub returns : goal.returns
returns c old new cut same = ap (map (map was_read_of)) same
