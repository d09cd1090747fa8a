use Rattle.std.proofs.Common.{◌+◌, ◌*◌, length}
use Rattle.thread_runner.proofs.run.+fn-run_jobs-scope+run_jobs.Given as goal

abbrev pub decreases-scope : goal.decreases-scope
decreases-scope g l = 2 * length l.jobs.items + 1

abbrev pub decreases-run_jobs : goal.decreases-run_jobs
decreases-run_jobs g l = 2 * length l.jobs.items
