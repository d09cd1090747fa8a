use Rattle.std.proofs.Common.{◌≡◌, false, take}
use Rattle.leg_runs.specs.Choosing.{AreCounts, MakesEach}
use Rattle.leg_runs.proofs.running.follow.Given as goal

abbrev pub invariant-loop-choice : goal.invariant-loop-choice
invariant-loop-choice l = (l.world.given ≡ l.fn.world.given) × (l.world.has_failed ≡ false) × (l.layout ≡ l.fn.world.given.layout → AreCounts l.world l.layout l.counts.items × MakesEach (take l.choice-index l.choices) l.fn.world l.world)
