use Rattle.std.proofs.Common.{length}
use Rattle.window_state.proofs.Removals.{IsLeft}
use Rattle.window_state.proofs.firing.remove_due.Given as goal

abbrev pub invariant-loop-start : goal.invariant-loop-start
invariant-loop-start l = IsLeft l.watermark l.initial.windows-inside l.windows-inside

abbrev pub decreases-loop-start : goal.decreases-loop-start
decreases-loop-start l = length l.windows-inside.opened.entries
