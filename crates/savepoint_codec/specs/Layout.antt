-- The layout of a savepoint's bytes: its fields in their order.
use Rattle.std.specs.Prelude.{◌≡◌, ℕ, true, List, codes}
use Rattle.byte_fields.specs.Format.{Format, before, as_record, marked}
use Rattle.byte_fields.specs.Lists.{sized}
use Rattle.byte_fields.specs.Fields.{u16_field}
use Rattle.savepoint_codec.specs.declared.savepoint.SavedGroup.{SavedGroup}
use Rattle.savepoint_codec.specs.declared.savepoint.Front.{Front}
use Rattle.savepoint_codec.specs.declared.savepoint.Contents.{Contents}
use Rattle.plan_model.specs.Uids.{uid_field}
use Rattle.savepoint_codec.specs.Fields.{number_field, max_field, sources_field, kinds_field, groups_field}

unfoldable pub record_field : Format (List ℕ)
record_field = sized u16_field

-- what stands before the key groups: the number, the plan's record, how many key groups the plan has, the sources, the
-- window's uid, and the kinds of its aggregates
unfoldable pub front_field : Format Front
front_field =
    as_record (λ x. record { number = x.0; plan_record = x.1.0; max = x.1.1.0; sources = x.1.1.1.0; window_uid = x.1.1.1.1.0; kinds = x.1.1.1.1.1 })
    (λ f. (f.number, (f.plan_record, (f.max, (f.sources, (f.window_uid, f.kinds))))))
    (before number_field (λ _. before record_field (λ _. before max_field (λ _. before sources_field (λ _. before uid_field (λ _. kinds_field))))))

abbrev pub Parts : Type 0
Parts = Front × List SavedGroup

unfoldable pub fields : Format Parts
fields = before front_field (λ front. groups_field front.max front.kinds)

abbrev pub contents_of : Parts → Contents
contents_of x = record {
  number = x.0.number;
  plan_record = x.0.plan_record;
  max = x.0.max;
  sources = x.0.sources;
  window_uid = x.0.window_uid;
  kinds = x.0.kinds;
  groups = x.1;
}

abbrev pub front_of : Contents → Front
front_of s = record {
  number = s.number;
  plan_record = s.plan_record;
  max = s.max;
  sources = s.sources;
  window_uid = s.window_uid;
  kinds = s.kinds;
}

abbrev pub parts_of : Contents → Parts
parts_of s = (front_of s, s.groups)

-- the layout without an index
unfoldable pub unindexed_format : Format Contents
unindexed_format = marked (codes "WSP1") (as_record contents_of parts_of fields)

-- what a savepoint holds has a spelling
abbrev pub IsSavepoint : Contents → Type 0
IsSavepoint s = unindexed_format.fits s ≡ true

-- its one spelling in that layout
abbrev pub unindexed_bytes : Contents → List ℕ
unindexed_bytes s = unindexed_format.spell s
