use Rattle.std.proofs.Common.{◌≡◌, take}
use Rattle.input_cuts.specs.Cuts.{first_cut}
use Rattle.input_cuts.proofs.finding.first_cut.Given as goal

abbrev pub invariant-loop-source : goal.invariant-loop-source
invariant-loop-source l = l.counts.items ≡ first_cut l.watermark (take l.source-index l.source-items)
