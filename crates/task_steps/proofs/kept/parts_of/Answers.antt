use Rattle.std.proofs.Common.{sym, ap, ◌∙◌}
use Rattle.std.specs.FinMap.{entries}
use Rattle.window_state.specs.Parts.{entries_of}
use Rattle.task_steps.specs.TaskData.{windows_in}
use Rattle.task_steps.proofs.Keeping.{none_there}
use Rattle.task_steps.proofs.kept.parts_of.Goals as goal

pub returns-in_default-clause-says : goal.returns-in_default-clause-says
returns-in_default-clause-says c = ap entries_of c.empty.ensures ∙ none_there ∙ ap (λ w. entries (windows_in w)) (sym c.in_default.is)
