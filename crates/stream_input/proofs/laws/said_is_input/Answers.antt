use Rattle.stream_input.proofs.Sound.{read_sound}
use Rattle.stream_input.proofs.laws.said_is_input.Goals as goal

pub returns : goal.returns
returns c plan bytes i sound said = let read = read_sound plan bytes i sound said in (read.input, read.orderly, read.belongs)
