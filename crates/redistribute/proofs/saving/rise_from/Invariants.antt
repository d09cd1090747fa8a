use Rattle.std.proofs.Common.{drop}
use Rattle.std.specs.Prelude.{◌↔◌}
use Rattle.legs.specs.Stops.{counts_of}
use Rattle.redistribute.specs.Stopping.{Rises}
use Rattle.redistribute.proofs.saving.rise_from.Given as goal

abbrev pub invariant-loop-cut : goal.invariant-loop-cut
invariant-loop-cut l = Rises l.first.counts (counts_of l.cuts) ↔ Rises l.last.counts (counts_of (drop l.cut-index l.cuts))
