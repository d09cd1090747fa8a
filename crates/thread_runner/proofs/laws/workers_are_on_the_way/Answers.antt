use Rattle.thread_runner.proofs.LegLemmas.{are_on_the_way}
use Rattle.thread_runner.proofs.laws.workers_are_on_the_way.Goals as goal

pub returns : goal.returns
returns c = are_on_the_way
