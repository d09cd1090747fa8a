use Rattle.restarts.proofs.Checked.{checks_go_on}
use Rattle.restarts.proofs.laws.checks_go_on.Goals as goal

pub returns : goal.returns
returns c = checks_go_on c.ascending_is_in_order-uids.ensures
