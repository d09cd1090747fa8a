use Rattle.std.proofs.Common.{◌≡◌, ◌++◌, length, map}
use Rattle.std.specs.List.{flat_map}
use Rattle.byte_fields.specs.Fields.{u8_field}
use Rattle.plan_record.specs.PlanRecord.{condition_field}
use Rattle.plan_record.proofs.record.put_conditions.Given as goal

abbrev pub invariant-loop-condition : goal.invariant-loop-condition
invariant-loop-condition l = l.out.items ≡ l.fn.out.items ++ (u8_field.spell (length l.conditions.keys) ++ flat_map condition_field.spell (map (λ c. c.now) l.yielded))
