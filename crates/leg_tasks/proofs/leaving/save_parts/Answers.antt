use Rattle.std.proofs.Common.{List, ap, ◌∙◌}
use Rattle.std.proofs.lemmas.Result.{IfOk-weaker}
use Rattle.redistribute.specs.declared.task_start.TaskStart.{TaskStart}
use Rattle.savepoint_codec.specs.declared.savepoint.Contents.{Contents}
use Rattle.gather.specs.Saved.{savepoint_of}
use Rattle.gather.specs.Parts.{sources_in, windows_in}
use Rattle.leg_tasks.proofs.leaving.save_parts.Goals as goal

pub returns : goal.returns
returns c =
    let p = c.args.plan.now in
    let stages = c.args.layout.now.stages in
    let made : List TaskStart → Contents = λ parts. savepoint_of p (sources_in p stages parts) (windows_in parts) c.args.number in
    IfOk-weaker c.gather.result _ _ (λ s is states left. is ∙ ap made (c.as_slice.ensures.value ∙ left)) c.gather.ensures
