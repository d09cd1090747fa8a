use Rattle.std.proofs.Common.{◌≡◌, vec_len}
use Rattle.leg_runs.proofs.running.try_any.Given as goal

abbrev pub invariant-loop-hint : goal.invariant-loop-hint
invariant-loop-hint l = l.world ≡ l.fn.world

abbrev pub decreases-loop-hint : goal.decreases-loop-hint
decreases-loop-hint l = vec_len l.hints
