use Rattle.std.proofs.Common.{◌<ℤ◌, take}
use Rattle.std.specs.List.{All}
use Rattle.window_state.specs.Windows.{AreWhole}
use Rattle.window_state.proofs.windows.first_from.Given as goal

abbrev pub invariant-loop-i : goal.invariant-loop-i
invariant-loop-i l = record {
  parts : All (λ part. part.pane.start <ℤ l.from) (take l.i l.parts);
  whole : AreWhole l.w l.from;
}
