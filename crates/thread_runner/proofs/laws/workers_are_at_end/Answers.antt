use Rattle.thread_runner.proofs.LegLemmas.{are_at_end}
use Rattle.thread_runner.proofs.laws.workers_are_at_end.Goals as goal

pub returns : goal.returns
returns c = are_at_end
