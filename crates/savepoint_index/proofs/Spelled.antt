-- The index and the entries are spelled one after the other, and so long.
use Rattle.std.proofs.Common.{◌≡◌, ℕ, suc, ◌+◌, ◌*◌, ◌≤◌, ℤ, List, [], ◌∷◌, ◌++◌, length, Option, None, refl, sym, ap, append_assoc, arith, length-append}
use Rattle.std.specs.List.{All, flat_map}
use Rattle.std.proofs.lemmas.List.Elements.{All-head, All-tail}
use Rattle.std.proofs.Math.Nat.{mul-suc}
use Rattle.byte_fields.specs.Lists.{chain}
use Rattle.byte_fields.specs.Fields.{u16_field, u64_field, i64_field, i128_field, u128_field}
use Rattle.byte_fields.proofs.Exact.{chain-spell, all_units, u16-length, u64-length, i64-length}
use Rattle.aggregates.specs.declared.kind.Kind.{Kind}
use Rattle.plan_model.specs.declared.spec.Pane.{Pane}
use Rattle.savepoint_codec.specs.declared.savepoint.SavedGroup.{SavedGroup}
use Rattle.savepoint_codec.specs.EntriesData.{EntryData}
use Rattle.savepoint_codec.specs.Fields.{entry_after, group_number, pane_field}
use Rattle.savepoint_codec.specs.Writing.{AreOfKinds, IsOfKinds, entry_bytes}
use Rattle.savepoint_codec.proofs.Facts.{entry-spell}
use Rattle.savepoint_index.specs.declared.head.GroupHead.{GroupHead}
use Rattle.savepoint_index.specs.Index.{head_field, lists_field, entry_length, first_place, indexed_field, heads_of, lists_of, indexed_groups}
use Rattle.savepoint_index.specs.Writing.{head_bytes, group_bytes}

head-spell : (max size first : ℕ) (last : Option GroupHead) (h : GroupHead) → (head_field max size first last).spell h ≡ head_bytes h
unfolding head_field group_number
head-spell max size first last h = sym (append_assoc (u16_field.spell h.group) (u64_field.spell h.count) (u64_field.spell h.place))

pub heads-length : (size place : ℕ) (gs : List SavedGroup) → length (heads_of size place gs) ≡ length gs
heads-length size place [] = refl
heads-length size place (g ∷ gs) = ap suc (heads-length size (place + size * length g.entries.entries) gs)

pub entries-spell : (kinds : List Kind) (es : List EntryData) → All (IsOfKinds kinds) es → (chain (entry_after kinds) None (length es)).spell es ≡ flat_map entry_bytes es
entries-spell kinds es all = chain-spell (entry_after kinds) entry_bytes (IsOfKinds kinds) (λ last e h. entry-spell kinds last e h) None (length es) es refl all

pub lists-spell : (kinds : List Kind) (size place : ℕ) (gs : List SavedGroup) → All (AreOfKinds kinds) gs → (lists_field kinds (heads_of size place gs)).spell (lists_of gs) ≡ flat_map group_bytes gs
unfolding lists_field
lists-spell kinds size place [] all = refl
lists-spell kinds size place (g ∷ gs) all =
    rw (entries-spell kinds g.entries.entries (All-head (AreOfKinds kinds) g gs all), lists-spell kinds size (place + size * length g.entries.entries) gs (All-tail (AreOfKinds kinds) g gs all)) refl

pub groups-spell : (max : ℕ) (kinds : List Kind) (begin : ℕ) (gs : List SavedGroup) → All (AreOfKinds kinds) gs
    → (indexed_groups max kinds begin).spell gs ≡ u16_field.spell (length gs) ++ (flat_map head_bytes (heads_of (entry_length kinds) (first_place begin (length gs)) gs) ++ flat_map group_bytes gs)
unfolding indexed_groups indexed_field
groups-spell max kinds begin gs all =
    let size = entry_length kinds in
    let first = first_place begin (length gs) in
    let heads = heads_of size first gs in
    rw (chain-spell (head_field max size first) head_bytes (λ _. Unit {0}) (λ last h _. head-spell max size first last h) None (length gs) heads (heads-length size first gs) (all_units heads), lists-spell kinds size first gs all) refl

-- ---- lengths

-- where the entries of key groups end that begin at a place
abbrev pub end_of : ℕ → ℕ → List SavedGroup → ℕ
end_of size place [] = place
end_of size place (g ∷ gs) = end_of size (place + size * length g.entries.entries) gs

pub at_least : (size place : ℕ) (gs : List SavedGroup) → place ≤ end_of size place gs
at_least size place [] = omega arith
at_least size place (g ∷ gs) = omega (arith, at_least size (place + size * length g.entries.entries) gs)

i128-length : (z : ℤ) → length (i128_field.spell z) ≡ 16
unfolding i128_field u128_field u64_field
i128-length z = refl

numbers-length : (zs : List ℤ) → length (flat_map i128_field.spell zs) ≡ 16 * length zs
numbers-length [] = refl
numbers-length (z ∷ zs) = omega (arith, length-append (i128_field.spell z) (flat_map i128_field.spell zs), i128-length z, numbers-length zs)

pane-length : (q : Pane) → length (pane_field.spell q) ≡ 16
unfolding pane_field
pane-length q = omega (arith, length-append (i64_field.spell q.start) (i64_field.spell q.key), i64-length q.start, i64-length q.key)

entry-length : (kinds : List Kind) (e : EntryData) → IsOfKinds kinds e → length (entry_bytes e) ≡ entry_length kinds
entry-length kinds e of =
    omega (arith, of, length-append (pane_field.spell e.pane ++ u64_field.spell e.total.count) (flat_map i128_field.spell e.total.numbers), length-append (pane_field.spell e.pane) (u64_field.spell e.total.count), pane-length e.pane, u64-length e.total.count, numbers-length e.total.numbers)

all-length : (kinds : List Kind) (es : List EntryData) → All (IsOfKinds kinds) es → length (flat_map entry_bytes es) ≡ entry_length kinds * length es
all-length kinds [] all = omega arith
all-length kinds (e ∷ es) all =
    let one = entry-length kinds e (All-head (IsOfKinds kinds) e es all) in
    let rest = all-length kinds es (All-tail (IsOfKinds kinds) e es all) in
    omega (arith, length-append (entry_bytes e) (flat_map entry_bytes es), one, rest, mul-suc (entry_length kinds) (length es))

pub group-length : (kinds : List Kind) (g : SavedGroup) → AreOfKinds kinds g → length (group_bytes g) ≡ entry_length kinds * length g.entries.entries
group-length kinds g of = all-length kinds g.entries.entries of

pub lists-length : (kinds : List Kind) (place : ℕ) (gs : List SavedGroup) → All (AreOfKinds kinds) gs → place + length (flat_map group_bytes gs) ≡ end_of (entry_length kinds) place gs
lists-length kinds place [] all = omega arith
lists-length kinds place (g ∷ gs) all =
    let rest = lists-length kinds (place + entry_length kinds * length g.entries.entries) gs (All-tail (AreOfKinds kinds) g gs all) in
    omega (arith, length-append (group_bytes g) (flat_map group_bytes gs), group-length kinds g (All-head (AreOfKinds kinds) g gs all), rest)

head-length : (h : GroupHead) → length (head_bytes h) ≡ 18
head-length h =
    omega (arith, length-append (u16_field.spell h.group ++ u64_field.spell h.count) (u64_field.spell h.place), length-append (u16_field.spell h.group) (u64_field.spell h.count), u16-length h.group, u64-length h.count, u64-length h.place)

pub index-length : (hs : List GroupHead) → length (flat_map head_bytes hs) ≡ 18 * length hs
index-length [] = refl
index-length (h ∷ hs) = omega (arith, length-append (head_bytes h) (flat_map head_bytes hs), head-length h, index-length hs)

-- how long it all is: as far as the entries reach
pub groups-length : (max : ℕ) (kinds : List Kind) (begin : ℕ) (gs : List SavedGroup) → All (AreOfKinds kinds) gs
    → begin + length ((indexed_groups max kinds begin).spell gs) ≡ end_of (entry_length kinds) (first_place begin (length gs)) gs
groups-length max kinds begin gs all =
    let size = entry_length kinds in
    let first = first_place begin (length gs) in
    let heads = flat_map head_bytes (heads_of size first gs) in
    let lists = flat_map group_bytes gs in
    let spelled = ap (length {A = ℕ}) (groups-spell max kinds begin gs all) in
    omega (arith, spelled, length-append (u16_field.spell (length gs)) (heads ++ lists), length-append heads lists, u16-length (length gs), index-length (heads_of size first gs), heads-length size first gs, lists-length kinds first gs all)
