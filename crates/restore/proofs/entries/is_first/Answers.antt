use Rattle.restore.proofs.Windows.{start_test}
use Rattle.restore.proofs.entries.is_first.Goals as goal

pub returns : goal.returns
returns c = start_test c.args.window.now c.args.start c.requires.operator c.requires.reached c.rem_euclid.result c.rem_euclid.ensures.value
