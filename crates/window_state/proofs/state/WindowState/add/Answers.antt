use Rattle.std.proofs.Common.{sym, subst}
use Rattle.window_state.specs.State.{StateData, HasRoomFor}
use Rattle.window_state.proofs.state.WindowState.add.Goals as goal

pub add_batch-requires-clause-room : goal.add_batch-requires-clause-room
add_batch-requires-clause-room c = subst (λ (v : StateData). HasRoomFor v.window c.args.batch.now.rows v.windows) (sym c.self.view_is) c.requires.room
