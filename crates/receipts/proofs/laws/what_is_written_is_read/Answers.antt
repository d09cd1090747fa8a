use Rattle.receipts.proofs.ReadBack.{read_back}
use Rattle.receipts.proofs.laws.what_is_written_is_read.Goals as goal

pub returns : goal.returns
returns c version p r plain is_plan is = read_back version p r plain is_plan is
