use Rattle.plan_scale.proofs.Sound.{counted_few, counted_small}
use Rattle.plan_scale.proofs.reading.has_few_tasks.Goals as goal

pub task_count-requires : goal.task_count-requires
task_count-requires c = counted_small c.args.plan.now c.args.text.now c.args.scale.now c.requires.sound c.requires.parallelism c.requires.is

pub returns : goal.returns
returns c = counted_few c.args.plan.now c.args.text.now c.args.scale.now c.task_count.result c.requires.sound c.requires.parallelism c.requires.is c.task_count.ensures
