-- What has a spelling in one layout has one in the other, where no place passes what eight bytes hold.
use Rattle.std.proofs.Common.{◌≡◌, ℕ, ◌+◌, ◌*◌, ◌^◌, ◌<◌, ◌≤◌, true, ◌&&◌, List, [], ◌∷◌, ◌++◌, length, Option, Some, None, refl, sym, subst, arith, length-append}
use Rattle.std.specs.Prelude.{nat_le, nat_lt, codes}
use Rattle.std.specs.Option.{option_map}
use Rattle.std.specs.List.{list_all}
use Rattle.std.proofs.lemmas.Bool.{lt-ltb, leb-true}
use Rattle.byte_fields.specs.declared.fault.FieldFault.TheVariants.{Order}
use Rattle.byte_fields.specs.Format.{where_it}
use Rattle.byte_fields.specs.Lists.{chain, counted}
use Rattle.byte_fields.specs.Fields.{u8_field, few_field, u16_field, u64_field}
use Rattle.byte_fields.proofs.Exact.{both, and_true}
use Rattle.aggregates.specs.declared.kind.Kind.{Kind}
use Rattle.plan_model.specs.declared.limits.TheConstants.{MOST_AGGREGATES}
use Rattle.savepoint_codec.specs.declared.savepoint.SavedGroup.{SavedGroup}
use Rattle.savepoint_codec.specs.declared.savepoint.Contents.{Contents}
use Rattle.savepoint_codec.specs.Fields.{kind_field, kinds_field, entry_after, entries_field, group_number, group_field, group_after, groups_field}
use Rattle.savepoint_codec.specs.Layout.{IsSavepoint, unindexed_format, fields, front_field, front_of}
use Rattle.savepoint_codec.proofs.Facts.{have_spellings, in_parts, short_contents}
use Rattle.savepoint_index.specs.declared.head.GroupHead.{GroupHead}
use Rattle.savepoint_index.specs.Index.{place_after, head_field, lists_field, entry_length, first_place, indexed_field, heads_of, lists_of, is_wide, indexed_groups}
use Rattle.savepoint_index.specs.Layout.{begin_of, indexed_fields, indexed_format, savepoint_bytes}
use Rattle.savepoint_index.proofs.IndexExact.{head_fits, fits_head}
use Rattle.savepoint_index.proofs.Spelled.{end_of, at_least, groups-length}

-- what fits as a key group, by its parts
pub record GroupFits (max : ℕ) (kinds : List Kind) (last : Option ℕ) (g : SavedGroup) : Type 0 where
  pub wide : is_wide kinds g ≡ true
  pub number : (group_number max last).fits g.group ≡ true
  pub count : (where_it (nat_lt 0) Order u64_field).fits (length g.entries.entries) ≡ true
  pub entries : (chain (entry_after kinds) None (length g.entries.entries)).fits g.entries.entries ≡ true

pub group_fits : (max : ℕ) (kinds : List Kind) (last : Option ℕ) (g : SavedGroup) → (group_field max kinds last).fits g ≡ true → GroupFits max kinds last g
unfolding group_field entries_field counted
group_fits max kinds last g h =
    let es = g.entries.entries in
    let a = both (is_wide kinds g) _ h in
    let b = both ((group_number max last).fits g.group) _ a.1 in
    let d = both ((where_it (nat_lt 0) Order u64_field).fits (length es)) ((chain (entry_after kinds) None (length es)).fits es) b.1 in
    record { wide = a.0; number = b.0; count = d.0; entries = d.1 }

fits_group : (max : ℕ) (kinds : List Kind) (last : Option ℕ) (g : SavedGroup) → GroupFits max kinds last g → (group_field max kinds last).fits g ≡ true
unfolding group_field entries_field counted
fits_group max kinds last g f = and_true _ _ f.wide (and_true _ _ f.number (and_true _ _ f.count f.entries))

-- ---- from the layout with an index to the one without

plain : (max : ℕ) (kinds : List Kind) (first : ℕ) (over : Option GroupHead) (last : Option SavedGroup) → option_map (λ h. h.group) over ≡ option_map (λ g. g.group) last → (place : ℕ) (gs : List SavedGroup) → list_all (is_wide kinds) gs ≡ true
    → (chain (head_field max (entry_length kinds) first) over (length gs)).fits (heads_of (entry_length kinds) place gs) ≡ true → (lists_field kinds (heads_of (entry_length kinds) place gs)).fits (lists_of gs) ≡ true
    → (chain (group_after max kinds) last (length gs)).fits gs ≡ true
unfolding chain lists_field
plain max kinds first over last same place [] wide heads lists = refl
plain max kinds first over last same place (g ∷ gs) wide heads lists =
    let size = entry_length kinds in
    let es = g.entries.entries in
    let head : GroupHead = record { group = g.group; count = length es; place = place } in
    let next = place + size * length es in
    let w = both (is_wide kinds g) (list_all (is_wide kinds) gs) wide in
    let h = both ((head_field max size first over).fits head) ((chain (head_field max size first) (Some head) (length gs)).fits (heads_of size next gs)) heads in
    let l = both ((chain (entry_after kinds) None (length es)).fits es) ((lists_field kinds (heads_of size next gs)).fits (lists_of gs)) lists in
    let there = head_fits max size first over head h.0 in
    let number = subst (λ (x : Option ℕ). (group_number max x).fits g.group ≡ true) same there.group in
    and_true _ _ (fits_group max kinds (option_map (λ x. x.group) last) g (record { wide = w.0; number = number; count = there.count; entries = l.0 }))
    (plain max kinds first (Some head) (Some g) refl next gs w.1 h.1 l.1)

pub is_savepoint : (s : Contents) → indexed_format.fits s ≡ true → IsSavepoint s
unfolding indexed_format indexed_fields indexed_groups indexed_field unindexed_format fields groups_field counted
is_savepoint s h =
    let size = entry_length s.kinds in
    let begin = begin_of (front_of s) in
    let first = first_place begin (length s.groups) in
    let heads = heads_of size first s.groups in
    let a = both (front_field.fits (front_of s)) _ h in
    let b = both (list_all (is_wide s.kinds) s.groups) _ a.1 in
    let d = both (u16_field.fits (length s.groups)) _ b.1 in
    let e = both ((chain (head_field s.max size first) None (length s.groups)).fits heads) ((lists_field s.kinds heads).fits (lists_of s.groups)) d.1 in
    and_true _ _ a.0 (and_true _ _ d.0 (plain s.max s.kinds first None None refl first s.groups b.0 e.0 e.1))

-- ---- and back

-- key groups that have a spelling
pub record GroupsFit (max : ℕ) (kinds : List Kind) (gs : List SavedGroup) : Type 0 where
  pub few : u16_field.fits (length gs) ≡ true
  pub chained : (chain (group_after max kinds) None (length gs)).fits gs ≡ true

pub groups_fit : (max : ℕ) (kinds : List Kind) (gs : List SavedGroup) → (groups_field max kinds).fits gs ≡ true → GroupsFit max kinds gs
unfolding groups_field counted
groups_fit max kinds gs h =
    let parts = both (u16_field.fits (length gs)) ((chain (group_after max kinds) None (length gs)).fits gs) h in
    record { few = parts.0; chained = parts.1 }

pub first_fits : (max : ℕ) (kinds : List Kind) (last : Option SavedGroup) (g : SavedGroup) (gs : List SavedGroup) → (chain (group_after max kinds) last (length (g ∷ gs))).fits (g ∷ gs) ≡ true
    → GroupFits max kinds (option_map (λ x. x.group) last) g × ((chain (group_after max kinds) (Some g) (length gs)).fits gs ≡ true)
unfolding chain
first_fits max kinds last g gs h =
    let parts = both ((group_after max kinds last).fits g) ((chain (group_after max kinds) (Some g) (length gs)).fits gs) h in
    (group_fits max kinds (option_map (λ x. x.group) last) g parts.0, parts.1)

pub all_wide : (max : ℕ) (kinds : List Kind) (last : Option SavedGroup) (gs : List SavedGroup) → (chain (group_after max kinds) last (length gs)).fits gs ≡ true → list_all (is_wide kinds) gs ≡ true
all_wide max kinds last [] h = refl
all_wide max kinds last (g ∷ gs) h =
    let f = first_fits max kinds last g gs h in
    and_true (is_wide kinds g) (list_all (is_wide kinds) gs) f.0.wide (all_wide max kinds (Some g) gs f.1)

pub lists_fit : (max : ℕ) (kinds : List Kind) (last : Option SavedGroup) (size place : ℕ) (gs : List SavedGroup) → (chain (group_after max kinds) last (length gs)).fits gs ≡ true
    → (lists_field kinds (heads_of size place gs)).fits (lists_of gs) ≡ true
unfolding lists_field
lists_fit max kinds last size place [] h = refl
lists_fit max kinds last size place (g ∷ gs) h =
    let f = first_fits max kinds last g gs h in
    and_true _ _ f.0.entries (lists_fit max kinds (Some g) size (place + size * length g.entries.entries) gs f.1)

pub heads_fit : (max : ℕ) (kinds : List Kind) (size first : ℕ) (over : Option GroupHead) (last : Option SavedGroup) → option_map (λ h. h.group) over ≡ option_map (λ g. g.group) last → (place : ℕ) → place ≡ place_after size first over
    → (gs : List SavedGroup) → end_of size place gs < 2 ^ 64 → (chain (group_after max kinds) last (length gs)).fits gs ≡ true → (chain (head_field max size first) over (length gs)).fits (heads_of size place gs) ≡ true
unfolding chain u64_field
heads_fit max kinds size first over last same place at [] below h = refl
heads_fit max kinds size first over last same place at (g ∷ gs) below h =
    let f = first_fits max kinds last g gs h in
    let next = place + size * length g.entries.entries in
    let head : GroupHead = record { group = g.group; count = length g.entries.entries; place = place } in
    let number = subst (λ (x : Option ℕ). (group_number max x).fits g.group ≡ true) (sym same) f.0.number in
    let here = fits_head max size first over head (record { group = number; count = f.0.count; wide = lt-ltb place (2 ^ 64) (omega (arith, at_least size next gs)); place = at }) in
    and_true _ _ here (heads_fit max kinds size first (Some head) (Some g) refl next refl gs below f.1)

pub few_kinds : (s : Contents) → IsSavepoint s → length s.kinds ≤ MOST_AGGREGATES
unfolding kinds_field few_field
few_kinds s h =
    let n = length s.kinds in
    let a = both ((few_field 8).fits n) (list_all kind_field.fits s.kinds) (have_spellings s h).kinds in
    let b = both (u8_field.fits n) (nat_le 1 n && nat_le n 8) a.0 in
    leb-true _ _ (both (nat_le 1 n) (nat_le n 8) b.1).1

-- the bytes of a savepoint reach as far as its entries
pub bytes-length : (s : Contents) → IsSavepoint s → length (savepoint_bytes s) ≡ end_of (entry_length s.kinds) (first_place (begin_of (front_of s)) (length s.groups)) s.groups
unfolding indexed_format indexed_fields
bytes-length s h =
    let front = front_field.spell (front_of s) in
    let groups = (indexed_groups s.max s.kinds (begin_of (front_of s))).spell s.groups in
    omega (arith, length-append (codes "WSP2") (front ++ groups), length-append front groups, groups-length s.max s.kinds (begin_of (front_of s)) s.groups (short_contents s h).groups)

pub is_indexed : (s : Contents) → IsSavepoint s → length (savepoint_bytes s) < 2 ^ 64 → indexed_format.fits s ≡ true
unfolding indexed_format indexed_fields indexed_groups indexed_field
is_indexed s h short =
    let size = entry_length s.kinds in
    let begin = begin_of (front_of s) in
    let first = first_place begin (length s.groups) in
    let parts = in_parts s h in
    let groups = groups_fit s.max s.kinds s.groups parts.1 in
    let below : end_of size first s.groups < 2 ^ 64 = omega (arith, bytes-length s h, short) in
    and_true _ _ parts.0
    (and_true _ _ (all_wide s.max s.kinds None s.groups groups.chained)
    (and_true _ _ groups.few
    (and_true _ _ (heads_fit s.max s.kinds size first None None refl first refl s.groups below groups.chained)
    (lists_fit s.max s.kinds None size first s.groups groups.chained))))
