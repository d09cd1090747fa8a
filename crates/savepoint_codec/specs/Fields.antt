-- The fields of a savepoint, from the smallest to the list of key groups.
use Rattle.std.specs.Prelude.{ℕ, ℤ, Bool, true, false, ◌&&◌, ◌||◌, ◌==◌, nat_le, nat_lt, int_lt, List, [], ◌∷◌, length, Option, Some, None, if◌then◌else◌}
use Rattle.std.specs.Option.{option_map}
use Rattle.std.specs.Ordering.{nat_cmp, int_eq}
use Rattle.std.specs.Cmp.Lexicographic.{slice_cmp}
use Rattle.std.specs.declared.cmp.Ordering.{Ordering}
use Rattle.std.specs.declared.cmp.Ordering.TheVariants.{Less, Equal, Greater}
use Rattle.key_groups.specs.declared.limits.TheConstants.{MOST_GROUPS}
use Rattle.byte_fields.specs.declared.fault.FieldFault.TheVariants.{Order, Range}
use Rattle.byte_fields.specs.Format.{Format, where_it, before, seen_as, as_record}
use Rattle.byte_fields.specs.Lists.{nothing, as_list, counted, listed}
use Rattle.byte_fields.specs.Fields.{u8_field, few_field, u16_field, u64_field, i64_field, i128_field}
use Rattle.plan_model.specs.Uids.{is_nat_within, uid_field}
use Rattle.plan_model.specs.declared.spec.Pane.{Pane}
use Rattle.plan_model.specs.declared.limits.TheConstants.{MOST_SOURCES, MOST_PARTITIONS, MOST_AGGREGATES, MOST_RECORDS}
use Rattle.aggregates.specs.declared.kind.Kind.{Kind}
use Rattle.aggregates.specs.declared.kind.Kind.TheVariants.{Count, Sum, Least, Greatest}
use Rattle.aggregates.specs.Kinds.{is_number}
use Rattle.savepoint_codec.specs.declared.savepoint.SavedPartition.{SavedPartition}
use Rattle.savepoint_codec.specs.declared.savepoint.SavedSource.{SavedSource}
use Rattle.savepoint_codec.specs.declared.savepoint.SavedGroup.{SavedGroup}
use Rattle.savepoint_codec.specs.EntriesData.{EntryData}

-- a savepoint's number: at least 1
unfoldable pub number_field : Format ℕ
number_field = where_it (nat_lt 0) Range u64_field

-- how many key groups the plan has
unfoldable pub max_field : Format ℕ
max_field = where_it (is_nat_within 1 MOST_GROUPS) Range u16_field

abbrev pub is_less : Ordering → Bool
is_less Less = true
is_less Equal = false
is_less Greater = false

-- a uid that comes after the one before, byte by byte
abbrev pub is_uid_after : Option (List ℕ) → List ℕ → Bool
is_uid_after None uid = true
is_uid_after (Some last) uid = is_less (slice_cmp nat_cmp last uid)

-- how far a partition was read, and its watermark there
unfoldable pub partition_field : Format SavedPartition
partition_field =
    as_record (λ x. record { offset = x.0; watermark = x.1 }) (λ p. (p.offset, p.watermark))
    (before u64_field (λ _. i64_field))

unfoldable pub partitions_field : Format (List SavedPartition)
partitions_field = listed (few_field MOST_PARTITIONS) partition_field

unfoldable pub source_field : Option (List ℕ) → Format SavedSource
source_field last =
    as_record (λ x. record { uid = x.0; partitions = x.1 }) (λ s. (s.uid, s.partitions))
    (before (where_it (is_uid_after last) Order uid_field) (λ _. partitions_field))

abbrev pub source_after : Option SavedSource → Format SavedSource
source_after last = source_field (option_map (λ s. s.uid) last)

unfoldable pub sources_field : Format (List SavedSource)
sources_field = counted (few_field MOST_SOURCES) source_after

-- kinds of aggregates have the codes 0 to 3
abbrev pub kind_code : Kind → ℕ
kind_code Count = 0
kind_code Sum = 1
kind_code Least = 2
kind_code Greatest = 3

abbrev pub kind_of_code : ℕ → Kind
kind_of_code n = if n == 0 then Count else if n == 1 then Sum else if n == 2 then Least else Greatest

unfoldable pub kind_field : Format Kind
kind_field = seen_as kind_of_code kind_code (λ _. true) (where_it (λ n. nat_le n 3) Range u8_field)

unfoldable pub kinds_field : Format (List Kind)
kinds_field = listed (few_field MOST_AGGREGATES) kind_field

-- the start of a window, and a key
unfoldable pub pane_field : Format Pane
pane_field = as_record (λ x. record { start = x.0; key = x.1 }) (λ q. (q.start, q.key)) (before i64_field (λ _. i64_field))

-- a pane that comes after the one before, by start and then by key
abbrev pub is_pane_after : Option Pane → Pane → Bool
is_pane_after None q = true
is_pane_after (Some last) q = int_lt last.start q.start || (int_eq last.start q.start && int_lt last.key q.key)

-- how many records a pane has: 1 to 2^40
unfoldable pub count_field : Format ℕ
count_field = where_it (is_nat_within 1 MOST_RECORDS) Range u64_field

-- a number that so many records can come to
unfoldable pub number_of_kind : ℕ → Kind → Format ℤ
number_of_kind count kind = where_it (is_number count kind) Range i128_field

-- one for each kind
unfoldable pub numbers_field : List Kind → ℕ → Format (List ℤ)
numbers_field [] count = nothing
numbers_field (kind ∷ kinds) count = as_list (before (number_of_kind count kind) (λ _. numbers_field kinds count))

unfoldable pub entry_field : List Kind → Option Pane → Format EntryData
entry_field kinds last =
    as_record (λ x. record { pane = x.0; total = record { count = x.1.0; numbers = x.1.1 } }) (λ e. (e.pane, (e.total.count, e.total.numbers)))
    (before (where_it (is_pane_after last) Order pane_field) (λ _. before count_field (numbers_field kinds)))

abbrev pub entry_after : List Kind → Option EntryData → Format EntryData
entry_after kinds last = entry_field kinds (option_map (λ e. e.pane) last)

-- at least one entry
unfoldable pub entries_field : List Kind → Format (List EntryData)
entries_field kinds = counted (where_it (nat_lt 0) Order u64_field) (entry_after kinds)

abbrev pub is_number_after : Option ℕ → ℕ → Bool
is_number_after None n = true
is_number_after (Some last) n = nat_lt last n

-- a key group of the plan's, after the one before
unfoldable pub group_number : ℕ → Option ℕ → Format ℕ
group_number max last = where_it (is_number_after last) Order (where_it (λ n. nat_lt n max) Range u16_field)

unfoldable pub group_field : ℕ → List Kind → Option ℕ → Format SavedGroup
group_field max kinds last =
    seen_as (λ x. record { group = x.0; entries = record { width = length kinds; entries = x.1 } }) (λ g. (g.group, g.entries.entries))
    (λ g. (g.entries.width == length kinds) && (before (group_number max last) (λ _. entries_field kinds)).fits (g.group, g.entries.entries))
    (before (group_number max last) (λ _. entries_field kinds))

abbrev pub group_after : ℕ → List Kind → Option SavedGroup → Format SavedGroup
group_after max kinds last = group_field max kinds (option_map (λ g. g.group) last)

-- the key groups that have entries
unfoldable pub groups_field : ℕ → List Kind → Format (List SavedGroup)
groups_field max kinds = counted u16_field (group_after max kinds)
