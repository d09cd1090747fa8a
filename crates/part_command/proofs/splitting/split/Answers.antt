use Rattle.std.proofs.Common.{inr}
use Rattle.part_command.proofs.splitting.split.Goals as goal

pub returns : goal.returns
returns g c = inr (c.deref.result.now, c.in_ok-input.input.items, c.split_texts.ensures)
