use Rattle.command_line.proofs.Shapes.{last}
use Rattle.command_line.proofs.words.import_zone.Goals as goal

pub returns : goal.returns
returns c = last _ _ _ _ c.option-2.ensures (c.in_ok-command-2.ensures _ c.in_ok-command.ensures)
