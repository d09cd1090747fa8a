use Rattle.import_copies.proofs.Keys.{keys_tell}
use Rattle.import_copies.proofs.laws.keys_tell.Goals as goal

pub returns : goal.returns
returns c = keys_tell
