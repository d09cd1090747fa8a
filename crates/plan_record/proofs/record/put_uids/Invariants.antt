use Rattle.std.proofs.Common.{◌≡◌, ◌++◌, length, map}
use Rattle.std.specs.List.{flat_map}
use Rattle.byte_fields.specs.Fields.{u8_field}
use Rattle.plan_model.specs.Uids.{uid_field}
use Rattle.plan_record.proofs.record.put_uids.Given as goal

abbrev pub invariant-loop-uid : goal.invariant-loop-uid
invariant-loop-uid l = l.out.items ≡ l.fn.out.items ++ (u8_field.spell (length l.uids.keys) ++ flat_map uid_field.spell (map (λ uid. uid.now) (map (λ uid. uid.now) l.yielded)))
