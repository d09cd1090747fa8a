use Rattle.std.proofs.Common.{◌≡◌, ◌++◌, length, take}
use Rattle.std.specs.List.{flat_map}
use Rattle.byte_fields.specs.Fields.{u8_field}
use Rattle.plan_record.specs.PlanRecord.{bound_field}
use Rattle.plan_record.proofs.bounds.put_bounds.Given as goal

abbrev pub invariant-loop-place : goal.invariant-loop-place
invariant-loop-place l = l.out.items ≡ l.fn.out.items ++ (u8_field.spell (length l.bounds) ++ flat_map bound_field.spell (take l.place-index l.bounds))
