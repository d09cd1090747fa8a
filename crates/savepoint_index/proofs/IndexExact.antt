-- The layout with an index is exact, field by field.
use Rattle.std.proofs.Common.{◌≡◌, ℕ, suc, zero, ◌+◌, ◌*◌, true, List, [], ◌∷◌, length, Option, Some, None, refl, sym, ap, ◌∙◌}
use Rattle.std.specs.Prelude.{nat_lt, codes, ◌==◌}
use Rattle.std.specs.Option.{option_map}
use Rattle.std.specs.List.{list_all}
use Rattle.std.proofs.lemmas.Bool.{eqb-true, eq-eqb}
use Rattle.byte_fields.specs.declared.fault.FieldFault.TheVariants.{Order, Index}
use Rattle.byte_fields.specs.Format.{where_it, before, as_record}
use Rattle.byte_fields.specs.Lists.{chain}
use Rattle.byte_fields.specs.Fields.{u16_field, u64_field}
use Rattle.byte_fields.proofs.Exact.{IsExact, both, and_true, where_exact, before_exact, seen_exact, record_exact, marked_exact, nothing_exact, list_exact, chain_exact, chain-length, u16_exact, u64_exact}
use Rattle.aggregates.specs.declared.kind.Kind.{Kind}
use Rattle.savepoint_codec.specs.declared.savepoint.SavedGroup.{SavedGroup}
use Rattle.savepoint_codec.specs.EntriesData.{EntryData}
use Rattle.savepoint_codec.specs.Fields.{entry_after, group_number}
use Rattle.savepoint_codec.specs.Layout.{front_field, contents_of, parts_of}
use Rattle.savepoint_codec.proofs.Facts.{entry_exact, front_exact, group_number_exact, group_back}
use Rattle.savepoint_index.specs.declared.head.GroupHead.{GroupHead}
use Rattle.savepoint_index.specs.Index.{place_after, head_field, lists_field, entry_length, first_place, Indexed, indexed_field, groups_of, heads_of, lists_of, indexed_of, is_wide, indexed_groups}
use Rattle.savepoint_index.specs.Layout.{begin_of, indexed_fields, indexed_format}

pub head_exact : (max size first : ℕ) (last : Option GroupHead) → IsExact (head_field max size first last)
unfolding head_field
head_exact max size first last =
    let group = group_number max (option_map (λ h. h.group) last) in
    let count = where_it (nat_lt 0) Order u64_field in
    let place = where_it (λ n. n == place_after size first last) Index u64_field in
    record_exact _ _ (before group (λ _. before count (λ _. place)))
    (before_exact group (λ _. before count (λ _. place)) (group_number_exact max (option_map (λ h. h.group) last)) (λ _. before_exact count (λ _. place) (where_exact (nat_lt 0) Order u64_field u64_exact) (λ _. where_exact (λ n. n == place_after size first last) Index u64_field u64_exact)))
    (λ x h. refl) (λ h. refl)

pub entries_exact : (kinds : List Kind) (n : ℕ) → IsExact (chain (entry_after kinds) None n)
entries_exact kinds n = chain_exact (entry_after kinds) (λ last. entry_exact kinds (option_map (λ e. e.pane) last)) None n

pub lists_exact : (kinds : List Kind) (heads : List GroupHead) → IsExact (lists_field kinds heads)
unfolding lists_field
lists_exact kinds [] = nothing_exact
lists_exact kinds (head ∷ heads) =
    list_exact (before (chain (entry_after kinds) None head.count) (λ _. lists_field kinds heads))
    (before_exact (chain (entry_after kinds) None head.count) (λ _. lists_field kinds heads) (entries_exact kinds head.count) (λ _. lists_exact kinds heads))

indexed_field_exact : (max : ℕ) (kinds : List Kind) (begin : ℕ) → IsExact (indexed_field max kinds begin)
unfolding indexed_field
indexed_field_exact max kinds begin =
    before_exact u16_field _ u16_exact (λ n. before_exact (chain (head_field max (entry_length kinds) (first_place begin n)) None n) (lists_field kinds)
    (chain_exact (head_field max (entry_length kinds) (first_place begin n)) (head_exact max (entry_length kinds) (first_place begin n)) None n) (lists_exact kinds))

-- what fits as a key group in the index
pub record HeadFits (max size first : ℕ) (last : Option GroupHead) (h : GroupHead) : Type 0 where
  pub group : (group_number max (option_map (λ h. h.group) last)).fits h.group ≡ true
  pub count : (where_it (nat_lt 0) Order u64_field).fits h.count ≡ true
  pub wide : u64_field.fits h.place ≡ true
  pub place : h.place ≡ place_after size first last

pub head_fits : (max size first : ℕ) (last : Option GroupHead) (h : GroupHead) → (head_field max size first last).fits h ≡ true → HeadFits max size first last h
unfolding head_field
head_fits max size first last h fits =
    let a = both ((group_number max (option_map (λ h. h.group) last)).fits h.group) _ fits in
    let b = both ((where_it (nat_lt 0) Order u64_field).fits h.count) _ a.1 in
    let d = both (u64_field.fits h.place) (h.place == place_after size first last) b.1 in
    record { group = a.0; count = b.0; wide = d.0; place = eqb-true _ _ d.1 }

pub fits_head : (max size first : ℕ) (last : Option GroupHead) (h : GroupHead) → HeadFits max size first last h → (head_field max size first last).fits h ≡ true
unfolding head_field
fits_head max size first last h f = and_true _ _ f.group (and_true _ _ f.count (and_true _ _ f.wide (eq-eqb _ _ f.place)))

-- ---- an index and entries, and the key groups that they stand for

heads_back : (max : ℕ) (kinds : List Kind) (first : ℕ) (last : Option GroupHead) (n : ℕ) (heads : List GroupHead) (lists : List (List EntryData)) → (chain (head_field max (entry_length kinds) first) last n).fits heads ≡ true
    → (lists_field kinds heads).fits lists ≡ true → heads_of (entry_length kinds) (place_after (entry_length kinds) first last) (groups_of kinds heads lists) ≡ heads
unfolding chain lists_field
heads_back max kinds first last n [] lists fits listed = refl
heads_back max kinds first last zero (head ∷ heads) lists fits listed = absurd cc
heads_back max kinds first last (suc n) (head ∷ heads) [] fits listed = absurd cc
heads_back max kinds first last (suc n) (head ∷ heads) (entries ∷ lists) fits listed =
    let size = entry_length kinds in
    let parts = both ((head_field max size first last).fits head) ((chain (head_field max size first) (Some head) n).fits heads) fits in
    let there = head_fits max size first last head parts.0 in
    let l = both ((chain (entry_after kinds) None head.count).fits entries) ((lists_field kinds heads).fits lists) listed in
    let long : length entries ≡ head.count = chain-length (entry_after kinds) None head.count entries l.0 in
    rw (long, sym there.place) (ap (λ (hs : List GroupHead). head ∷ hs) (heads_back max kinds first (Some head) n heads lists parts.1 l.1))

lists_back : (kinds : List Kind) (heads : List GroupHead) (lists : List (List EntryData)) → (lists_field kinds heads).fits lists ≡ true → lists_of (groups_of kinds heads lists) ≡ lists
unfolding lists_field
lists_back kinds [] [] listed = refl
lists_back kinds [] (entries ∷ lists) listed = absurd cc
lists_back kinds (head ∷ heads) [] listed = absurd cc
lists_back kinds (head ∷ heads) (entries ∷ lists) listed =
    let l = both ((chain (entry_after kinds) None head.count).fits entries) ((lists_field kinds heads).fits lists) listed in
    ap (λ (ls : List (List EntryData)). entries ∷ ls) (lists_back kinds heads lists l.1)

groups-length : (kinds : List Kind) (heads : List GroupHead) (lists : List (List EntryData)) → (lists_field kinds heads).fits lists ≡ true → length (groups_of kinds heads lists) ≡ length heads
unfolding lists_field
groups-length kinds [] lists listed = refl
groups-length kinds (head ∷ heads) [] listed = absurd cc
groups-length kinds (head ∷ heads) (entries ∷ lists) listed =
    let l = both ((chain (entry_after kinds) None head.count).fits entries) ((lists_field kinds heads).fits lists) listed in
    ap suc (groups-length kinds heads lists l.1)

are_wide : (kinds : List Kind) (heads : List GroupHead) (lists : List (List EntryData)) → list_all (is_wide kinds) (groups_of kinds heads lists) ≡ true
are_wide kinds [] lists = refl
are_wide kinds (head ∷ heads) [] = refl
are_wide kinds (head ∷ heads) (entries ∷ lists) = and_true (length kinds == length kinds) (list_all (is_wide kinds) (groups_of kinds heads lists)) (eq-eqb (length kinds) (length kinds) refl) (are_wide kinds heads lists)

-- key groups are those of their index and their entries
pub groups_back : (kinds : List Kind) (size place : ℕ) (gs : List SavedGroup) → list_all (is_wide kinds) gs ≡ true → groups_of kinds (heads_of size place gs) (lists_of gs) ≡ gs
groups_back kinds size place [] wide = refl
groups_back kinds size place (g ∷ gs) wide =
    let w = both (is_wide kinds g) (list_all (is_wide kinds) gs) wide in
    let rest = groups_back kinds size (place + size * length g.entries.entries) gs w.1 in
    ap (λ (x : SavedGroup). x ∷ groups_of kinds (heads_of size (place + size * length g.entries.entries) gs) (lists_of gs)) (group_back kinds g (eqb-true _ _ w.0))
    ∙ ap (λ (xs : List SavedGroup). g ∷ xs) rest

indexed_back : (max : ℕ) (kinds : List Kind) (begin : ℕ) (x : Indexed) → (indexed_field max kinds begin).fits x ≡ true → indexed_of kinds begin (groups_of kinds x.1.0 x.1.1) ≡ x
unfolding indexed_field
indexed_back max kinds begin (n, (heads, lists)) h =
    let size = entry_length kinds in
    let a = both (u16_field.fits n) _ h in
    let b = both ((chain (head_field max size (first_place begin n)) None n).fits heads) ((lists_field kinds heads).fits lists) a.1 in
    let long : length (groups_of kinds heads lists) ≡ n = groups-length kinds heads lists b.1 ∙ chain-length (head_field max size (first_place begin n)) None n heads b.0 in
    rw (long, heads_back max kinds (first_place begin n) None n heads lists b.0 b.1, lists_back kinds heads lists b.1) refl

groups_exact : (max : ℕ) (kinds : List Kind) (begin : ℕ) → IsExact (indexed_groups max kinds begin)
unfolding indexed_groups
groups_exact max kinds begin =
    let inner = indexed_field max kinds begin in
    seen_exact _ _ _ inner (indexed_field_exact max kinds begin)
    (λ x h. let back = indexed_back max kinds begin x h in (back, and_true (list_all (is_wide kinds) (groups_of kinds x.1.0 x.1.1)) (inner.fits (indexed_of kinds begin (groups_of kinds x.1.0 x.1.1))) (are_wide kinds x.1.0 x.1.1) (rw back h)))
    (λ gs h. let parts = both (list_all (is_wide kinds) gs) (inner.fits (indexed_of kinds begin gs)) h in (groups_back kinds (entry_length kinds) (first_place begin (length gs)) gs parts.0, parts.1))

pub indexed_exact : IsExact indexed_format
unfolding indexed_format indexed_fields
indexed_exact =
    marked_exact (codes "WSP2") (as_record contents_of parts_of indexed_fields)
    (record_exact contents_of parts_of indexed_fields
    (before_exact front_field (λ front. indexed_groups front.max front.kinds (begin_of front)) front_exact (λ front. groups_exact front.max front.kinds (begin_of front)))
    (λ x h. refl) (λ s. refl))
