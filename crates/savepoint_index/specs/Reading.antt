-- What the readers of the index and of the entries answer.
use Rattle.std.specs.Prelude.{ℕ, List, Result, Ok, Err}
use Rattle.byte_fields.specs.declared.fault.FieldFault.{FieldFault}
use Rattle.byte_fields.specs.Format.{Format, as_record, before}
use Rattle.byte_fields.specs.Fields.{u16_field, u64_field}
use Rattle.aggregates.specs.declared.kind.Kind.{Kind}
use Rattle.savepoint_codec.specs.declared.savepoint.SavedGroup.{SavedGroup}
use Rattle.savepoint_codec.specs.EntriesData.{EntryData}
use Rattle.savepoint_index.specs.declared.head.GroupHead.{GroupHead}
use Rattle.savepoint_index.specs.Index.{groups_of}

-- the key groups whose entries are read, as the index has them
abbrev pub groups_read : List Kind → List GroupHead → Result (List (List EntryData) × List ℕ) FieldFault → Result (List SavedGroup × List ℕ) FieldFault
groups_read kinds heads (Ok x) = Ok (groups_of kinds heads x.0, x.1)
groups_read kinds heads (Err fault) = Err fault

-- what is read, without the bytes behind it
abbrev pub value_read : {X : Type 0} → Result (X × List ℕ) FieldFault → Result X FieldFault
value_read (Ok x) = Ok x.0
value_read (Err fault) = Err fault

-- a key group in the index, with any count and place
unfoldable pub any_head : Format GroupHead
any_head =
    as_record (λ x. record { group = x.0; count = x.1.0; place = x.1.1 }) (λ h. (h.group, (h.count, h.place)))
    (before u16_field (λ _. before u64_field (λ _. u64_field)))
