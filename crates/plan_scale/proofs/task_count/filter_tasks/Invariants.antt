use Rattle.std.proofs.Common.{◌≡◌, ◌≤◌, ◌+◌, ◌*◌, drop}
use Rattle.key_groups.specs.declared.limits.TheConstants.{MOST_SUBTASKS}
use Rattle.plan_scale.specs.Tasks.{filter_tasks}
use Rattle.plan_scale.proofs.task_count.filter_tasks.Given as goal

abbrev pub invariant-loop-filter : goal.invariant-loop-filter
invariant-loop-filter l = record {
  counted : l.count + filter_tasks l.before (drop l.filter-index l.filters) ≡ filter_tasks l.initial.before l.filters;
  bounded : l.count ≤ MOST_SUBTASKS * l.filter-index;
}
