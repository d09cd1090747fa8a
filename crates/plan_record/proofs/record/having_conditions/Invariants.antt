use Rattle.std.proofs.Common.{◌≡◌, ◌≤◌, map, length, take}
use Rattle.plan_record.specs.PlanRecord.{ascending, condition_cmp, having_condition}
use Rattle.plan_record.proofs.record.having_conditions.Given as goal

abbrev pub invariant-loop-condition : goal.invariant-loop-condition
invariant-loop-condition l = record {
  says : l.conditions.keys ≡ ascending condition_cmp (map having_condition (take l.condition-index l.having));
  few : length l.conditions.keys ≤ l.condition-index;
}
