use Rattle.std.proofs.Common.{subst, sym}
use Rattle.window_state.specs.State.{HasRoomFor, StateData}
use Rattle.refused_growths.proofs.Rooms.{has_room}
use Rattle.refused_growths.proofs.states.fill.Goals as goal

pub add-requires-clause-room : goal.add-requires-clause-room
add-requires-clause-room c = subst (λ (s : StateData). HasRoomFor s.window c.args.batch.now.rows s.windows) (sym c.requires.new) (has_room c.args.window.now c.args.batch.now.rows)
