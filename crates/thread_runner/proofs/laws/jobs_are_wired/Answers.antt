use Rattle.thread_runner.proofs.LegLemmas.{wired_jobs}
use Rattle.thread_runner.proofs.laws.jobs_are_wired.Goals as goal

pub returns : goal.returns
returns c = wired_jobs
