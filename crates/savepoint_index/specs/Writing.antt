-- What the writers put: a key group in the index, and the entries of a key group.
use Rattle.std.specs.Prelude.{ℕ, List, ◌++◌}
use Rattle.std.specs.List.{flat_map}
use Rattle.byte_fields.specs.Fields.{u16_field, u64_field}
use Rattle.savepoint_codec.specs.declared.savepoint.SavedGroup.{SavedGroup}
use Rattle.savepoint_codec.specs.Writing.{entry_bytes}
use Rattle.savepoint_index.specs.declared.head.GroupHead.{GroupHead}

abbrev pub head_bytes : GroupHead → List ℕ
head_bytes h = u16_field.spell h.group ++ u64_field.spell h.count ++ u64_field.spell h.place

abbrev pub group_bytes : SavedGroup → List ℕ
group_bytes g = flat_map entry_bytes g.entries.entries
