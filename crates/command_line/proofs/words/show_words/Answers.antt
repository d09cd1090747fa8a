use Rattle.command_line.proofs.Shapes.{last}
use Rattle.command_line.proofs.words.show_words.Goals as goal

pub returns : goal.returns
returns c = last _ _ _ _ c.option.ensures (c.in_ok-command.ensures _ c.named-command.ensures)
