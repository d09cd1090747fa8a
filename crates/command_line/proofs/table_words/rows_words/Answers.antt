use Rattle.command_line.proofs.Shapes.{last}
use Rattle.command_line.proofs.table_words.rows_words.Goals as goal

pub returns : goal.returns
returns c = last _ _ _ _ c.several.ensures c.named-command.ensures
