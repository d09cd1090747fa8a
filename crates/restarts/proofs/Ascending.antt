-- The key groups of a savepoint ascend, and so do the panes of each.
use Rattle.std.proofs.Common.{◌≡◌, ℕ, zero, suc, ◌<◌, ℤ, true, ◌&&◌, ◌||◌, List, [], ◌∷◌, length, map, get_or, Option, Some, None, refl, arith}
use Rattle.std.specs.Prelude.{int_lt, nat_lt, ◌==◌}
use Rattle.std.specs.List.{All, AllByRecursion}
use Rattle.std.specs.List.Sorted.{IsStrictlySortedBy}
use Rattle.std.specs.Ordering.{int_cmp, int_eq, ordering_then}
use Rattle.std.specs.declared.cmp.Ordering.TheVariants.{Less}
use Rattle.std.proofs.lemmas.Bool.{ltb-true}
use Rattle.std.proofs.lemmas.Int.{ints}
use Rattle.byte_fields.specs.declared.fault.FieldFault.TheVariants.{Order, Range}
use Rattle.byte_fields.specs.Format.{Format, before, where_it}
use Rattle.byte_fields.specs.Fields.{u16_field, u64_field}
use Rattle.byte_fields.specs.Lists.{chain, counted}
use Rattle.byte_fields.proofs.Exact.{both, counted-fits}
use Rattle.plan_model.specs.Rows.{pane_cmp}
use Rattle.plan_model.proofs.Facts.{pane_cmp_total}
use Rattle.aggregates.specs.declared.kind.Kind.{Kind}
use Rattle.savepoint_codec.specs.EntriesData.{EntryData}
use Rattle.savepoint_codec.specs.Fields.{pane_field, is_pane_after, count_field, numbers_field, entry_field, entry_after, entries_field, group_number, group_field, group_after, groups_field, is_number_after}
use Rattle.savepoint_codec.specs.Layout.{IsSavepoint}
use Rattle.savepoint_codec.proofs.Facts.{have_spellings}
use Rattle.savepoint_codec.specs.declared.savepoint.Contents.{Contents}
use Rattle.savepoint_codec.specs.declared.savepoint.SavedGroup.{SavedGroup}
use Rattle.gather.proofs.Facts.{weaken}

-- ---- a list in which each item fits behind the one before

-- each is related to all that follow
abbrev pub Rises : {X : Type 0} → (X → X → Type 0) → List X → Type 0
Rises P [] = Unit {0}
Rises P (x ∷ xs) = AllByRecursion (P x) xs × Rises P xs

module _ {X : Type 0} (item : Option X → Format X) (P : X → X → Type 0) (trans : (x y z : X) → P x y → P y z → P x z) (step : (x y : X) → (item (Some x)).fits y ≡ true → P x y) where
  after : (x : X) (xs : List X) → (chain item (Some x) (length xs)).fits xs ≡ true → AllByRecursion (P x) xs
  unfolding chain
  after x [] h = tt
  after x (y ∷ xs) h =
      let parts = both ((item (Some x)).fits y) ((chain item (Some y) (length xs)).fits xs) h in
      let one = step x y parts.0 in
      (one, weaken (P y) (P x) xs (λ z. trans x y z one) (after y xs parts.1))

  rises : (last : Option X) (xs : List X) → (chain item last (length xs)).fits xs ≡ true → Rises P xs
  unfolding chain
  rises last [] h = tt
  rises last (x ∷ xs) h = let parts = both ((item last).fits x) ((chain item (Some x) (length xs)).fits xs) h in (after x xs parts.1, rises (Some x) xs parts.1)

  pub counted_rises : (count : Format ℕ) (xs : List X) → (counted count item).fits xs ≡ true → Rises P xs
  unfolding counted
  counted_rises count xs h = rises None xs (both (count.fits (length xs)) ((chain item None (length xs)).fits xs) h).1

-- ---- panes

later_pane : (a b c d : ℤ) → (int_lt a b || (int_eq a b && int_lt c d)) ≡ true → ordering_then (int_cmp a b) (int_cmp c d) ≡ Less
later_pane a b c d h = grind (arith, ints)

abbrev IsLater : EntryData → EntryData → Type 0
IsLater x y = pane_cmp x.pane y.pane ≡ Less

later_entry : (kinds : List Kind) (x y : EntryData) → (entry_after kinds (Some x)).fits y ≡ true → IsLater x y
unfolding entry_field
later_entry kinds x y h =
    let fit = where_it (is_pane_after (Some x.pane)) Order pane_field in
    let pane = both (fit.fits y.pane) ((before count_field (numbers_field kinds)).fits (y.total.count, y.total.numbers)) h in
    later_pane x.pane.start y.pane.start x.pane.key y.pane.key (both (pane_field.fits y.pane) (is_pane_after (Some x.pane) y.pane) pane.0).1

panes_after : (x : EntryData) (es : List EntryData) → AllByRecursion (IsLater x) es → AllByRecursion (λ q. pane_cmp x.pane q ≡ Less) (map (λ e. e.pane) es)
panes_after x [] h = tt
panes_after x (e ∷ es) h = (h.0, panes_after x es h.1)

panes_rise : (es : List EntryData) → Rises IsLater es → IsStrictlySortedBy pane_cmp (map (λ e. e.pane) es)
unfolding IsStrictlySortedBy
panes_rise [] h = tt
panes_rise (e ∷ es) h = (panes_after e es h.0, panes_rise es h.1)

entries_ascend : (kinds : List Kind) (es : List EntryData) → (entries_field kinds).fits es ≡ true → IsStrictlySortedBy pane_cmp (map (λ e. e.pane) es)
unfolding entries_field
entries_ascend kinds es h = panes_rise es (counted_rises (entry_after kinds) IsLater (λ x y z. pane_cmp_total.trans x.pane y.pane z.pane) (later_entry kinds) (where_it (nat_lt 0) Order u64_field) es h)

-- ---- key groups

abbrev pub IsBelow : SavedGroup → SavedGroup → Type 0
IsBelow g h = g.group < h.group

abbrev Ascend : SavedGroup → Type 0
Ascend g = IsStrictlySortedBy pane_cmp (map (λ e. e.pane) g.entries.entries)

module _ (max : ℕ) (kinds : List Kind) where
  pub group_below : (g h : SavedGroup) → (group_after max kinds (Some g)).fits h ≡ true → IsBelow g h
  unfolding group_field group_number
  group_below g h fit =
      let inner = both (h.entries.width == length kinds) ((before (group_number max (Some g.group)) (λ _. entries_field kinds)).fits (h.group, h.entries.entries)) fit in
      let number = both ((group_number max (Some g.group)).fits h.group) ((entries_field kinds).fits h.entries.entries) inner.1 in
      ltb-true g.group h.group (both ((where_it (λ n. nat_lt n max) Range u16_field).fits h.group) (is_number_after (Some g.group) h.group) number.0).1

  group_ascends : (last : Option SavedGroup) (g : SavedGroup) → (group_after max kinds last).fits g ≡ true → Ascend g
  unfolding group_field
  group_ascends None g fit =
      let inner = both (g.entries.width == length kinds) ((before (group_number max None) (λ _. entries_field kinds)).fits (g.group, g.entries.entries)) fit in
      entries_ascend kinds g.entries.entries (both ((group_number max None).fits g.group) ((entries_field kinds).fits g.entries.entries) inner.1).1
  group_ascends (Some x) g fit =
      let inner = both (g.entries.width == length kinds) ((before (group_number max (Some x.group)) (λ _. entries_field kinds)).fits (g.group, g.entries.entries)) fit in
      entries_ascend kinds g.entries.entries (both ((group_number max (Some x.group)).fits g.group) ((entries_field kinds).fits g.entries.entries) inner.1).1

-- no two are the same
apart : (g : SavedGroup) (gs : List SavedGroup) → AllByRecursion (IsBelow g) gs → (k : ℕ) (d : SavedGroup) → k < length gs → g.group < (get_or gs k d).group
apart g [] h k d l = absurd (omega (arith, l))
apart g (x ∷ gs) h zero d l = h.0
apart g (x ∷ gs) h (suc k) d l = apart g gs h.1 k d (omega (arith, l))

pub once : (gs : List SavedGroup) → Rises IsBelow gs → (i j : ℕ) (d : SavedGroup) → i < length gs → j < length gs → (get_or gs i d).group ≡ (get_or gs j d).group → i ≡ j
once [] h i j d l m e = absurd (omega (arith, l))
once (g ∷ gs) h zero zero d l m e = refl
once (g ∷ gs) h zero (suc j) d l m e = absurd (omega (arith, e, apart g gs h.0 j d (omega (arith, m))))
once (g ∷ gs) h (suc i) zero d l m e = absurd (omega (arith, e, apart g gs h.0 i d (omega (arith, l))))
once (g ∷ gs) h (suc i) (suc j) d l m e = let rest = once gs h.1 i j d (omega (arith, l)) (omega (arith, m)) e in omega (arith, rest)

-- the key groups of a savepoint, and the panes of each, ascend
pub record AreInOrder (gs : List SavedGroup) : Type 0 where
  pub groups : Rises IsBelow gs
  pub panes : All Ascend gs

pub groups_ascend : (s : Contents) → IsSavepoint s → AreInOrder s.groups
unfolding groups_field
groups_ascend s h =
    let fits = have_spellings s h in
    record {
      groups = counted_rises (group_after s.max s.kinds) IsBelow (λ x y z l m. omega (arith, l, m)) (group_below s.max s.kinds) u16_field s.groups fits.groups;
      panes = (counted-fits u16_field (group_after s.max s.kinds) Ascend (group_ascends s.max s.kinds) s.groups fits.groups).1;
    }
