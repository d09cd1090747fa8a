use Rattle.command_line.proofs.Shapes.{last}
use Rattle.command_line.proofs.table_words.export_files.Goals as goal

pub returns : goal.returns
returns c = last _ _ _ _ c.required-3.ensures (c.in_ok-command-2.ensures _ (c.in_ok-command.ensures _ c.named-command.ensures))
