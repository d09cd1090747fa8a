-- Entries as parts.
use Rattle.std.proofs.Common.{◌≡◌, ◌≤◌, ◌^◌, true, List, length, arith}
use Rattle.std.specs.Prelude.{nat_le, ◌&&◌}
use Rattle.std.proofs.lemmas.Bool.{and_parts, leb-true}
use Rattle.plan_model.specs.declared.limits.TheConstants.{MOST_AGGREGATES, MOST_RECORDS}
use Rattle.aggregates.specs.declared.kind.Kind.{Kind}
use Rattle.aggregates.specs.Kinds.{are_numbers, is_entry, IsAcc}
use Rattle.savepoint_codec.specs.EntriesData.{EntryData}
use Rattle.packed_parts.specs.Packing.{part_of}

-- an entry is what records can come to
pub sound_entry : (kinds : List Kind) (e : EntryData) → is_entry kinds e.total.count e.total.numbers ≡ true → IsAcc (part_of kinds e).acc
sound_entry kinds e h =
    let count = e.total.count in
    let many = nat_le 1 (length kinds) && nat_le (length kinds) MOST_AGGREGATES in
    let counted = nat_le 1 count && nat_le count MOST_RECORDS in
    let parts = and_parts many (counted && are_numbers count kinds e.total.numbers) h in
    let kinds_are = and_parts (nat_le 1 (length kinds)) (nat_le (length kinds) MOST_AGGREGATES) parts.0 in
    let rest = and_parts counted (are_numbers count kinds e.total.numbers) parts.1 in
    let counts = and_parts (nat_le 1 count) (nat_le count MOST_RECORDS) rest.0 in
    let most : count ≤ 2 ^ 40 = leb-true count MOST_RECORDS counts.1 in record {
      some = leb-true 1 (length kinds) kinds_are.0;
      few = leb-true (length kinds) MOST_AGGREGATES kinds_are.1;
      counted = leb-true 1 count counts.0;
      bounded = omega (arith, most);
      numbers = rest.1;
    }
