use Rattle.plan_scale.proofs.EvenScale.{even_few, even_small}
use Rattle.plan_scale.proofs.even.has_few_tasks.Goals as goal

pub task_count-requires : goal.task_count-requires
task_count-requires c = even_small c.args.plan.now c.args.parallelism c.args.scale.now c.requires.sound c.requires.parallelism c.requires.is

pub returns : goal.returns
returns c = even_few c.args.plan.now c.args.parallelism c.args.scale.now c.task_count.result c.requires.sound c.requires.parallelism c.requires.is c.task_count.ensures
