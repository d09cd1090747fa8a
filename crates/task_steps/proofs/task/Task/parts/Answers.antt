use Rattle.std.proofs.Common.{ap, ◌∙◌}
use Rattle.task_steps.specs.TaskData.{TaskData}
use Rattle.task_steps.proofs.Keeping.{operator_of}
use Rattle.task_steps.proofs.task.Task.parts.Goals as goal

pub returns-in-None-clause-operator : goal.returns-in-None-clause-operator
returns-in-None-clause-operator c =
    let s = c.self.inside in
    let d = c.args.self.now in
    λ r. operator_of s.setup s.taken s.has_failed s.window d.window c.self.invariant.windowing (ap (λ (t : TaskData). t.window) c.self.view_is) (ap (λ (t : TaskData). t.setup.role) c.self.view_is ∙ r)
