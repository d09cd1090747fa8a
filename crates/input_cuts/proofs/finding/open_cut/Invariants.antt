use Rattle.std.proofs.Common.{◌≡◌, take}
use Rattle.input_cuts.specs.Cuts.{open_cut}
use Rattle.input_cuts.proofs.finding.open_cut.Given as goal

abbrev pub invariant-loop-source : goal.invariant-loop-source
invariant-loop-source l = l.counts.items ≡ open_cut (take l.source-index l.source-items)
