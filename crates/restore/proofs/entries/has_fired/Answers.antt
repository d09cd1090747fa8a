use Rattle.restore.proofs.Windows.{due_test}
use Rattle.restore.proofs.entries.has_fired.Goals as goal

pub returns : goal.returns
returns c = due_test c.args.window.now c.args.start c.requires.operator c.requires.reached c.args.watermark c.ranges.watermark
