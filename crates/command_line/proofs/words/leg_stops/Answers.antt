use Rattle.command_line.proofs.Shapes.{last}
use Rattle.command_line.proofs.words.leg_stops.Goals as goal

pub returns : goal.returns
returns c = last _ _ _ _ c.option-5.ensures (c.in_ok-command-5.ensures _ (c.in_ok-command-4.ensures _ (c.in_ok-command-3.ensures _ (c.in_ok-command-2.ensures _ c.in_ok-command.ensures))))
