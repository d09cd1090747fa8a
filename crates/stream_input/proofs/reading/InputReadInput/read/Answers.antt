use Rattle.stream_input.proofs.Sound.{read_sound}
use Rattle.stream_input.proofs.reading.InputReadInput.read.Goals as goal

pub new-requires-clause-sound : goal.new-requires-clause-sound
new-requires-clause-sound c = rw (c.columns.ensures.says, c.window.ensures.says) (read_sound c.args.plan.now c.args.bytes.now _ c.columns.ensures.sound c.in_ok-sources.ensures).input

pub new-requires-clause-orderly : goal.new-requires-clause-orderly
new-requires-clause-orderly c = rw c.window.ensures.says (read_sound c.args.plan.now c.args.bytes.now _ c.columns.ensures.sound c.in_ok-sources.ensures).orderly

pub returns-clause-belongs : goal.returns-clause-belongs
returns-clause-belongs c = rw (c.new.ensures, c.columns.ensures.says, c.window.ensures.says) (read_sound c.args.plan.now c.args.bytes.now _ c.columns.ensures.sound c.in_ok-sources.ensures).belongs
