use Rattle.std.proofs.Common.{◌≡◌, true, take}
use Rattle.std.specs.Prelude.{IfSome}
use Rattle.plan_model.specs.Windows.{is_start}
use Rattle.window_state.specs.State.{TakesIn}
use Rattle.window_state.proofs.adding.add_batch.Given as goal

abbrev pub invariant-loop-row : goal.invariant-loop-row
invariant-loop-row l = record {
  window : l.windows.window ≡ l.fn.windows.window;
  added : TakesIn (take l.row l.batch.rows) l.fn.windows l.windows;
  start : IfSome l.start (λ s. is_start l.fn.windows.window s ≡ true);
}
