-- The layout is exact, field by field.
use Rattle.std.proofs.Common.{◌≡◌, ℕ, ◌^◌, true, ◌&&◌, List, [], ◌∷◌, length, Option, Result, refl, sym, ap, arith}
use Rattle.std.specs.Prelude.{nat_le, nat_lt, codes, ◌==◌}
use Rattle.std.specs.Option.{option_map}
use Rattle.std.proofs.lemmas.Bool.{eqb-true, eq-eqb}
use Rattle.std.proofs.lemmas.Grind.{common_steps}
use Rattle.byte_fields.specs.declared.fault.FieldFault.{FieldFault}
use Rattle.byte_fields.specs.declared.fault.FieldFault.TheVariants as field
use Rattle.byte_fields.specs.declared.fault.FieldFault.TheVariants.{Order, Range}
use Rattle.byte_fields.specs.declared.fault.ReadFault.{ReadFault}
use Rattle.byte_fields.specs.declared.fault.ReadFault.TheVariants as read
use Rattle.byte_fields.specs.Format.{where_it, before, as_record}
use Rattle.byte_fields.specs.Reads.{Fails}
use Rattle.byte_fields.specs.Fields.{u8_field, few_field, u16_field, u64_field, i64_field, i128_field}
use Rattle.byte_fields.proofs.Exact.{IsExact, both, and_true, where_exact, before_exact, seen_exact, record_exact, marked_exact, nothing_exact, list_exact, counted_exact, listed_exact, sized_exact, u8_exact, few_exact, u16_exact, u64_exact, i64_exact, i128_exact}
use Rattle.plan_model.specs.Uids.{is_nat_within, uid_field}
use Rattle.key_groups.specs.declared.limits.TheConstants.{MOST_GROUPS}
use Rattle.plan_model.proofs.Facts.{uid_exact}
use Rattle.plan_model.specs.declared.spec.Pane.{Pane}
use Rattle.aggregates.specs.declared.kind.Kind.{Kind}
use Rattle.aggregates.specs.declared.kind.Kind.TheVariants.{Count, Sum, Least, Greatest}
use Rattle.aggregates.specs.Kinds.{is_number}
use Rattle.savepoint_codec.specs.declared.savepoint.SavedGroup.{SavedGroup}
use Rattle.savepoint_codec.specs.declared.savepoint.Contents.{Contents}
use Rattle.savepoint_codec.specs.Fields.{number_field, max_field, is_uid_after, partition_field, partitions_field, source_field, source_after, sources_field, kind_code, kind_of_code, kind_field, kinds_field, pane_field, is_pane_after, count_field, number_of_kind, numbers_field, entry_field, entry_after, entries_field, is_number_after, group_number, group_field, group_after, groups_field}
use Rattle.savepoint_codec.specs.Layout.{record_field, front_field, fields, contents_of, parts_of, unindexed_format}
use Rattle.savepoint_codec.specs.Answer.{fault_of_read, fault_said, Fails as Refuses}

number_exact : IsExact number_field
unfolding number_field
number_exact = where_exact (nat_lt 0) Range u64_field u64_exact

max_exact : IsExact max_field
unfolding max_field
max_exact = where_exact (is_nat_within 1 MOST_GROUPS) Range u16_field u16_exact

partition_exact : IsExact partition_field
unfolding partition_field
partition_exact = record_exact _ _ (before u64_field (λ _. i64_field)) (before_exact u64_field (λ _. i64_field) u64_exact (λ _. i64_exact)) (λ x h. refl) (λ p. refl)

partitions_exact : IsExact partitions_field
unfolding partitions_field
partitions_exact = listed_exact (few_field 64) partition_field (few_exact 64) partition_exact

source_exact : (last : Option (List ℕ)) → IsExact (source_field last)
unfolding source_field
source_exact last =
    record_exact _ _ (before (where_it (is_uid_after last) Order uid_field) (λ _. partitions_field))
    (before_exact (where_it (is_uid_after last) Order uid_field) (λ _. partitions_field) (where_exact (is_uid_after last) Order uid_field uid_exact) (λ _. partitions_exact)) (λ x h. refl) (λ s. refl)

sources_exact : IsExact sources_field
unfolding sources_field
sources_exact = counted_exact (few_field 8) source_after (few_exact 8) (λ last. source_exact (option_map (λ s. s.uid) last))

code_there : (n : ℕ) → (u8_field.fits n && nat_le n 3) ≡ true → (kind_code (kind_of_code n) ≡ n) × (true ≡ true)
code_there n h =
    let few : nat_le n 3 ≡ true = (both (u8_field.fits n) (nat_le n 3) h).1 in
    (grind (arith, common_steps), refl)

code_back : (k : Kind) → true ≡ true → (kind_of_code (kind_code k) ≡ k) × ((u8_field.fits (kind_code k) && nat_le (kind_code k) 3) ≡ true)
unfolding u8_field
code_back Count h = (refl, refl)
code_back Sum h = (refl, refl)
code_back Least h = (refl, refl)
code_back Greatest h = (refl, refl)

kind_exact : IsExact kind_field
unfolding kind_field
kind_exact = seen_exact kind_of_code kind_code (λ _. true) (where_it (λ n. nat_le n 3) Range u8_field) (where_exact (λ n. nat_le n 3) Range u8_field u8_exact) code_there code_back

kinds_exact : IsExact kinds_field
unfolding kinds_field
kinds_exact = listed_exact (few_field 8) kind_field (few_exact 8) kind_exact

pane_exact : IsExact pane_field
unfolding pane_field
pane_exact = record_exact _ _ (before i64_field (λ _. i64_field)) (before_exact i64_field (λ _. i64_field) i64_exact (λ _. i64_exact)) (λ x h. refl) (λ q. refl)

count_exact : IsExact count_field
unfolding count_field
count_exact = where_exact (is_nat_within 1 (2 ^ 40)) Range u64_field u64_exact

number_of_kind_exact : (count : ℕ) (kind : Kind) → IsExact (number_of_kind count kind)
unfolding number_of_kind
number_of_kind_exact count kind = where_exact (is_number count kind) Range i128_field i128_exact

numbers_exact : (kinds : List Kind) (count : ℕ) → IsExact (numbers_field kinds count)
unfolding numbers_field
numbers_exact [] count = nothing_exact
numbers_exact (kind ∷ kinds) count =
    list_exact (before (number_of_kind count kind) (λ _. numbers_field kinds count))
    (before_exact (number_of_kind count kind) (λ _. numbers_field kinds count) (number_of_kind_exact count kind) (λ _. numbers_exact kinds count))

pub entry_exact : (kinds : List Kind) (last : Option Pane) → IsExact (entry_field kinds last)
unfolding entry_field
entry_exact kinds last =
    record_exact _ _ (before (where_it (is_pane_after last) Order pane_field) (λ _. before count_field (numbers_field kinds)))
    (before_exact (where_it (is_pane_after last) Order pane_field) (λ _. before count_field (numbers_field kinds)) (where_exact (is_pane_after last) Order pane_field pane_exact) (λ _. before_exact count_field (numbers_field kinds) count_exact (numbers_exact kinds)))
    (λ x h. refl) (λ e. refl)

entries_exact : (kinds : List Kind) → IsExact (entries_field kinds)
unfolding entries_field
entries_exact kinds = counted_exact (where_it (nat_lt 0) Order u64_field) (entry_after kinds) (where_exact (nat_lt 0) Order u64_field u64_exact) (λ last. entry_exact kinds (option_map (λ e. e.pane) last))

pub group_number_exact : (max : ℕ) (last : Option ℕ) → IsExact (group_number max last)
unfolding group_number
group_number_exact max last = where_exact (is_number_after last) Order (where_it (λ n. nat_lt n max) Range u16_field) (where_exact (λ n. nat_lt n max) Range u16_field u16_exact)

pub group_back : (kinds : List Kind) (g : SavedGroup) → g.entries.width ≡ length kinds → ◌≡◌ {A = SavedGroup} (record { group = g.group; entries = record { width = length kinds; entries = g.entries.entries } }) g
group_back kinds g same = ap (λ (w : ℕ). record { group = g.group; entries = record { width = w; entries = g.entries.entries } }) (sym same)

group_exact : (max : ℕ) (kinds : List Kind) (last : Option ℕ) → IsExact (group_field max kinds last)
unfolding group_field
group_exact max kinds last =
    let inner = before (group_number max last) (λ _. entries_field kinds) in
    seen_exact _ _ _ inner (before_exact (group_number max last) (λ _. entries_field kinds) (group_number_exact max last) (λ _. entries_exact kinds))
    (λ x h. (refl, and_true (length kinds == length kinds) (inner.fits x) (eq-eqb (length kinds) (length kinds) refl) h))
    (λ g h. let parts = both (g.entries.width == length kinds) (inner.fits (g.group, g.entries.entries)) h in (group_back kinds g (eqb-true _ _ parts.0), parts.1))

groups_exact : (max : ℕ) (kinds : List Kind) → IsExact (groups_field max kinds)
unfolding groups_field
groups_exact max kinds = counted_exact u16_field (group_after max kinds) u16_exact (λ last. group_exact max kinds (option_map (λ g. g.group) last))

plan_record_exact : IsExact record_field
unfolding record_field
plan_record_exact = sized_exact u16_field u16_exact

pub front_exact : IsExact front_field
unfolding front_field
front_exact =
    record_exact _ _ (before number_field (λ _. before record_field (λ _. before max_field (λ _. before sources_field (λ _. before uid_field (λ _. kinds_field))))))
    (before_exact number_field _ number_exact (λ _. before_exact record_field _ plan_record_exact (λ _. before_exact max_field _ max_exact (λ _. before_exact sources_field _ sources_exact (λ _. before_exact uid_field (λ _. kinds_field) uid_exact (λ _. kinds_exact))))))
    (λ x h. refl) (λ f. refl)

fields_exact : IsExact fields
unfolding fields
fields_exact = before_exact front_field (λ front. groups_field front.max front.kinds) front_exact (λ front. groups_exact front.max front.kinds)

pub unindexed_exact : IsExact unindexed_format
unfolding unindexed_format
unindexed_exact = marked_exact (codes "WSP1") (as_record contents_of parts_of fields) (record_exact contents_of parts_of fields fields_exact (λ x h. refl) (λ s. refl))

-- a reader's fault is the savepoint's
pub refuses : (e : ReadFault) (said : Result Contents FieldFault) → Fails e said → Refuses (fault_of_read e) (fault_said said)
refuses read.Memory said h = tt
refuses (read.Bytes field.Magic) said h = ap fault_said h
refuses (read.Bytes field.Truncated) said h = ap fault_said h
refuses (read.Bytes field.Trailing) said h = ap fault_said h
refuses (read.Bytes field.Order) said h = ap fault_said h
refuses (read.Bytes field.Range) said h = ap fault_said h
refuses (read.Bytes field.Index) said h = ap fault_said h
