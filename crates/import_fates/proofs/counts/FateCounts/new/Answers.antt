use Rattle.std.proofs.Common.{refl}
use Rattle.import_fates.specs.Counts.{counts_of}
use Rattle.import_fates.proofs.counts.FateCounts.new.Goals as goal

pub returns : goal.returns
unfolding counts_of
returns c = refl
