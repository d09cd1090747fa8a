use Rattle.std.proofs.Common.{sym}
use Rattle.leg_runs.proofs.Candidates.{length_is}
use Rattle.leg_runs.proofs.schedule.candidate_count.Goals as goal

pub returns : goal.returns
returns c = sym (length_is c.args.layout.now c.args.task c.partitions_of.result.now c.inputs_of.result.now c.partitions_of.ensures c.inputs_of.ensures)
