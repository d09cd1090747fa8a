use Rattle.std.specs.Prelude.{◌≡◌, ℕ, ◌<◌, slice_index}
use Rattle.task_steps.specs.TaskData.{limit_at}
use Rattle.task_steps.proofs.task.Task.is_at_limit.Given as goal

abbrev pub invariant-loop-q : goal.invariant-loop-q
invariant-loop-q l = (k : ℕ) → k < l.q → slice_index l.self.state.offsets k ≡ limit_at l.self.setup l.self.state.next k
