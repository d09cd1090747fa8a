use Rattle.std.proofs.Common.{◌≡◌, ◌++◌, string_bytes}
use Rattle.job_texts.specs.LayoutText.{of_each, partitions_text}
use Rattle.job_texts.proofs.layout_text.write_source_tasks.Given as goal

abbrev pub invariant-loop-task : goal.invariant-loop-task
invariant-loop-task l = string_bytes l.text ≡ string_bytes l.fn.text ++ of_each l.task (partitions_text l.layout)
