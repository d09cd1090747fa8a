-- The index: which key groups there are, how many entries each has, and where they begin.
use Rattle.std.specs.Prelude.{ℕ, ◌+◌, ◌*◌, Bool, ◌&&◌, ◌==◌, nat_lt, List, [], ◌∷◌, length, Option, Some, None, map}
use Rattle.std.specs.Option.{option_map}
use Rattle.std.specs.List.{list_all}
use Rattle.byte_fields.specs.declared.fault.FieldFault.TheVariants.{Order, Index}
use Rattle.byte_fields.specs.Format.{Format, where_it, before, seen_as, as_record}
use Rattle.byte_fields.specs.Lists.{nothing, as_list, chain}
use Rattle.byte_fields.specs.Fields.{u16_field, u64_field}
use Rattle.aggregates.specs.declared.kind.Kind.{Kind}
use Rattle.savepoint_codec.specs.declared.savepoint.SavedGroup.{SavedGroup}
use Rattle.savepoint_codec.specs.EntriesData.{EntryData}
use Rattle.savepoint_codec.specs.Fields.{entry_after, group_number}
use Rattle.savepoint_index.specs.declared.head.GroupHead.{GroupHead}
use Rattle.savepoint_index.specs.declared.head.TheConstants.{HEAD_BYTES}

-- where the entries of a key group begin, each of so many bytes: behind those of the group before, or else where the
-- first do
abbrev pub place_after : ℕ → ℕ → Option GroupHead → ℕ
place_after size first None = first
place_after size first (Some last) = last.place + size * last.count

-- a key group in the index, after the one before
unfoldable pub head_field : ℕ → ℕ → ℕ → Option GroupHead → Format GroupHead
head_field max size first last =
    as_record (λ x. record { group = x.0; count = x.1.0; place = x.1.1 }) (λ h. (h.group, (h.count, h.place)))
    (before (group_number max (option_map (λ h. h.group) last)) (λ _. before (where_it (nat_lt 0) Order u64_field) (λ _. where_it (λ n. n == place_after size first last) Index u64_field)))

-- the entries of each key group in the index
unfoldable pub lists_field : List Kind → List GroupHead → Format (List (List EntryData))
lists_field kinds [] = nothing
lists_field kinds (head ∷ heads) = as_list (before (chain (entry_after kinds) None head.count) (λ _. lists_field kinds heads))

-- how many bytes an entry has: a start, a key and a count of eight bytes each, and sixteen for each number
abbrev pub entry_length : List Kind → ℕ
entry_length kinds = 24 + 16 * length kinds

-- where the entries begin: behind how many key groups there are, and the index
abbrev pub first_place : ℕ → ℕ → ℕ
first_place begin count = begin + 2 + HEAD_BYTES * count

-- how many key groups there are, the index, and the entries
abbrev pub Indexed : Type 0
Indexed = ℕ × (List GroupHead × List (List EntryData))

-- the same, where so many bytes stand before them
unfoldable pub indexed_field : ℕ → List Kind → ℕ → Format Indexed
indexed_field max kinds begin = before u16_field (λ n. before (chain (head_field max (entry_length kinds) (first_place begin n)) None n) (lists_field kinds))

-- the key groups that an index and the entries stand for
abbrev pub groups_of : List Kind → List GroupHead → List (List EntryData) → List SavedGroup
groups_of kinds [] lists = []
groups_of kinds (head ∷ heads) [] = []
groups_of kinds (head ∷ heads) (entries ∷ lists) = record { group = head.group; entries = record { width = length kinds; entries = entries } } ∷ groups_of kinds heads lists

-- the index of key groups whose entries begin at a place
abbrev pub heads_of : ℕ → ℕ → List SavedGroup → List GroupHead
heads_of size place [] = []
heads_of size place (g ∷ gs) = record { group = g.group; count = length g.entries.entries; place = place } ∷ heads_of size (place + size * length g.entries.entries) gs

abbrev pub lists_of : List SavedGroup → List (List EntryData)
lists_of gs = map (λ g. g.entries.entries) gs

abbrev pub indexed_of : List Kind → ℕ → List SavedGroup → Indexed
indexed_of kinds begin gs = (length gs, (heads_of (entry_length kinds) (first_place begin (length gs)) gs, lists_of gs))

-- a number for each kind
abbrev pub is_wide : List Kind → SavedGroup → Bool
is_wide kinds g = g.entries.width == length kinds

-- the key groups that have entries, with an index before them
unfoldable pub indexed_groups : ℕ → List Kind → ℕ → Format (List SavedGroup)
indexed_groups max kinds begin =
    seen_as (λ x. groups_of kinds x.1.0 x.1.1) (indexed_of kinds begin)
    (λ gs. list_all (is_wide kinds) gs && (indexed_field max kinds begin).fits (indexed_of kinds begin gs))
    (indexed_field max kinds begin)
