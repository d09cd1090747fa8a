use Rattle.std.proofs.Common.{rules}
use Rattle.command_line.proofs.Shapes.{adds_rule}
use Rattle.command_line.proofs.words.flag.Goals as goal

pub returns : goal.returns
returns c = adds_rule _ _ c.action.result _ c.arg.ensures (search rules) (search rules)
