use Rattle.receipts.proofs.Kept.{accepted_same}
use Rattle.receipts.proofs.laws.accepted_is_same.Goals as goal

pub returns : goal.returns
returns c p i cut r names checks = accepted_same p i cut r names checks
