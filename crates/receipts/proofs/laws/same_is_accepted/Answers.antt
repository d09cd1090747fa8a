use Rattle.receipts.proofs.Kept.{same_accepted}
use Rattle.receipts.proofs.laws.same_is_accepted.Goals as goal

pub returns : goal.returns
returns c p old new cut legs rows names more result same checks = same_accepted p old new cut legs rows names more result same checks
