use Rattle.std.proofs.Common.{ℕ, List, Option, subst}
use Rattle.clap.specs.Words.{found_of}
use Rattle.command_line.specs.Reading.{IsFound}
use Rattle.command_line.proofs.reading.found_command.Goals as goal

pub returns : goal.returns
returns c = subst (λ (name : Option (List ℕ)). IsFound name c.command_in.result) c.in_ok-name.ensures.name (found_of c.in_ok-name.words.now, c.command_in.ensures)
