use Rattle.stream_input.proofs.Marked.{entry_sound}
use Rattle.stream_input.proofs.building.marked_of.Goals as goal

pub new-requires-clause-sound : goal.new-requires-clause-sound
new-requires-clause-sound c = rw c.in_ok-entry.ensures (entry_sound c.args.marking.columns c.args.marking.time c.args.text.now c.requires.timely)
