use Rattle.std.proofs.Common.{string_bytes}
use Rattle.job_texts.specs.LayoutText.{partitions_text}
use Rattle.job_texts.proofs.Lines.{one_more}
use Rattle.job_texts.proofs.layout_text.write_source_tasks.Goals as goal

pub loop-task-preserved : goal.loop-task-preserved
loop-task-preserved c = one_more (partitions_text c.args.layout.now) c.loop-task.task (string_bytes c.args.text.now) (string_bytes c.loop-task.text) (string_bytes c.write_partitions.new.text) c.in_ok-write_partitions.ensures c.loop-task.invariant
