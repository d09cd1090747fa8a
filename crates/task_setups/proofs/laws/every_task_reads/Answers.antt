use Rattle.task_setups.proofs.Reading.{every_task_reads}
use Rattle.task_setups.proofs.laws.every_task_reads.Goals as goal

pub returns : goal.returns
returns c = every_task_reads
