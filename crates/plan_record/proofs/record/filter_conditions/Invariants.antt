use Rattle.std.proofs.Common.{◌≡◌, ◌≤◌, map, length, take}
use Rattle.plan_record.specs.PlanRecord.{ascending, condition_cmp, filter_condition}
use Rattle.plan_record.proofs.record.filter_conditions.Given as goal

abbrev pub invariant-loop-filter : goal.invariant-loop-filter
invariant-loop-filter l = record {
  says : l.conditions.keys ≡ ascending condition_cmp (map filter_condition (take l.filter-index l.filters));
  few : length l.conditions.keys ≤ l.filter-index;
}
