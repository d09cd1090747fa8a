use Rattle.std.proofs.Common.{drop}
use Rattle.std.specs.Prelude.{◌↔◌}
use Rattle.std.specs.List.{AllByRecursion}
use Rattle.stream_model.specs.Watermarks.{IsBefore}
use Rattle.legs.specs.Stops.{counts_of}
use Rattle.redistribute.proofs.saving.are_before.Given as goal

abbrev pub invariant-loop-cut : goal.invariant-loop-cut
invariant-loop-cut l = AllByRecursion (λ cut. IsBefore cut l.end.counts) (counts_of l.cuts) ↔ AllByRecursion (λ cut. IsBefore cut l.end.counts) (counts_of (drop l.cut-index l.cuts))
