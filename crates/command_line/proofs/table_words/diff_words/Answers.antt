use Rattle.command_line.proofs.Shapes.{last}
use Rattle.command_line.proofs.table_words.diff_words.Goals as goal

pub returns : goal.returns
returns c = last _ _ _ _ c.required-2.ensures (c.in_ok-command.ensures _ c.named-command.ensures)
