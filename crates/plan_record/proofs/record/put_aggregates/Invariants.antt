use Rattle.std.proofs.Common.{◌≡◌, ◌++◌, length, take}
use Rattle.std.specs.List.{flat_map}
use Rattle.byte_fields.specs.Fields.{u8_field}
use Rattle.plan_record.specs.PlanRecord.{aggregate_field}
use Rattle.plan_record.proofs.record.put_aggregates.Given as goal

abbrev pub invariant-loop-aggregate : goal.invariant-loop-aggregate
invariant-loop-aggregate l = l.out.items ≡ l.fn.out.items ++ (u8_field.spell (length l.aggregates) ++ flat_map aggregate_field.spell (take l.aggregate-index l.aggregates))
