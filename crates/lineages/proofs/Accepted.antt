-- A savepoint that is accepted is the one of what its start says.
use Rattle.std.proofs.Common.{◌≡◌, ℕ, zero, suc, ◌+◌, ◌<◌, ◌≤◌, Bool, true, false, cond, ◌||◌, List, [], ◌∷◌, ◌++◌, length, map, get_or, Option, Some, None, Ok, refl, sym, ap, subst, ◌∙◌, append_assoc, inl, inr, length-append, arith}
use Rattle.std.specs.Prelude.{T, bytes_eq, nat_lt, position, slice_index_or, ◌==◌}
use Rattle.std.specs.FinMap.{find as find_key}
use Rattle.std.specs.FinMap.Entries.{is_sorted, where_key, same_entries}
use Rattle.std.specs.List.{All, AllByRecursion, find, flat_map, list_all, list_any, position_or_len, range_with_len}
use Rattle.std.specs.List.Sorted.{IsStrictlySortedBy}
use Rattle.std.specs.Option.{option_map, option_map_or}
use Rattle.std.specs.Ordering.{eq_by_cmp, nat_cmp}
use Rattle.std.specs.Cmp.Lexicographic.{slice_cmp, nat_list_cmp_total, nat_list_eq_equiv, bytes_decides, texts_ties}
use Rattle.std.specs.FinMap.{nat_cmp-IsAntisymmetric, slice_cmp-IsAntisymmetric}
use Rattle.std.specs.declared.cmp.Ordering.{Ordering}
use Rattle.std.specs.declared.cmp.Ordering.TheVariants.{Less, Equal, Greater}
use Rattle.std.proofs.lemmas.Bool.{and_parts, cases_eq, cases_Bool, eq-eqb, eqb-true, lt-ltb, ltb-true, ne_eqb}
use Rattle.std.proofs.lemmas.List.{append-nil, length-map, map-append}
use Rattle.std.proofs.lemmas.List.Elements.{filter-append}
use Rattle.answers.proofs.Facts.{met_first, no_fault}
use Rattle.byte_fields.specs.declared.fault.FieldFault.TheVariants.{Order, Range}
use Rattle.byte_fields.specs.Format.{before, where_it}
use Rattle.byte_fields.specs.Fields.{few_field, u16_field, u64_field}
use Rattle.byte_fields.specs.Lists.{chain, counted}
use Rattle.byte_fields.proofs.Exact.{both, counted-fits}
use Rattle.key_groups.specs.Groups.{key_group}
use Rattle.plan_model.specs.declared.spec.Pane.{Pane}
use Rattle.plan_model.specs.declared.spec.SourceSpec.{SourceSpec}
use Rattle.plan_model.specs.Aggregates.{Aggregated}
use Rattle.plan_model.specs.PlanData.{PlanData}
use Rattle.plan_model.specs.Rows.{pane_cmp}
use Rattle.plan_model.specs.Uids.{uid_field}
use Rattle.plan_record.specs.Laws.{AscendingIsInOrder}
use Rattle.plan_record.specs.PlanRecord.{plan_record}
use Rattle.aggregates.specs.declared.kind.Kind.{Kind}
use Rattle.aggregates.specs.Kinds.{kind_of}
use Rattle.window_state.specs.declared.parts.Part.{Part}
use Rattle.window_state.specs.Parts.{entries_of}
use Rattle.window_state.proofs.Facts.{sorted}
use Rattle.savepoint_codec.specs.EntriesData.{EntryData}
use Rattle.savepoint_codec.specs.Fields.{is_less, is_uid_after, partitions_field, source_field, source_after, sources_field, entry_after, entries_field, group_number, group_field, group_after, groups_field, is_number_after}
use Rattle.savepoint_codec.specs.Layout.{IsSavepoint}
use Rattle.savepoint_codec.proofs.Facts.{have_spellings}
use Rattle.savepoint_codec.specs.declared.savepoint.Contents.{Contents}
use Rattle.savepoint_codec.specs.declared.savepoint.SavedGroup.{SavedGroup}
use Rattle.savepoint_codec.specs.declared.savepoint.SavedPartition.{SavedPartition}
use Rattle.savepoint_codec.specs.declared.savepoint.SavedSource.{SavedSource}
use Rattle.stream_model.specs.InputData.{InputData}
use Rattle.redistribute.specs.StartData.{StartData}
use Rattle.packed_parts.specs.Packing.{part_of}
use Rattle.redistribute.specs.Parts.{windows_of}
use Rattle.legs.specs.declared.restore_fault.RestoreFault.TheVariants.{MaxParallelism, UnknownUid, MissingUid, PlanChanged}
use Rattle.restore.specs.Answer.{start_of, start_or_fault}
use Rattle.restore.specs.Requirements.{are_kinds, has_max, has_known_uids, has_all_uids, has_plan, plan_requirements}
use Rattle.restore.specs.Saved.{saved_under}
use Rattle.restore.proofs.Facts.{kinds_in}
use Rattle.restarts.specs.Laws.{AcceptedHaveGroups}
use Rattle.restarts.proofs.Facts.{Rises, counted_rises, IsBelow, group_below, keys, turned}
use Rattle.gather.proofs.Facts.{weaken, filtered}
use Rattle.gather.specs.Laws.{HasGroups}
use Rattle.gather.specs.Saved.{entries_in_group, is_in_group, partitions_under, saved_entry, saved_group, saved_groups, saved_source, savepoint_of, source_uids}

-- ---- what the spelling of a savepoint says of its sources and key groups

abbrev uid_cmp : List ℕ → List ℕ → Ordering
uid_cmp = slice_cmp nat_cmp

abbrev IsBefore : SavedSource → SavedSource → Type 0
IsBefore x y = uid_cmp x.uid y.uid ≡ Less

less : (o : Ordering) → is_less o ≡ true → o ≡ Less
less Less h = refl
less Equal h = absurd cc
less Greater h = absurd cc

source_before : (x y : SavedSource) → (source_after (Some x)).fits y ≡ true → IsBefore x y
unfolding source_field
source_before x y h =
    let named = both ((where_it (is_uid_after (Some x.uid)) Order uid_field).fits y.uid) (partitions_field.fits y.partitions) h in
    less (uid_cmp x.uid y.uid) (both (uid_field.fits y.uid) (is_uid_after (Some x.uid) y.uid) named.0).1

-- a key group of the plan, with entries of so many numbers
record IsKept (max : ℕ) (kinds : List Kind) (g : SavedGroup) : Type 0 where
  width : g.entries.width ≡ length kinds
  some : 0 < length g.entries.entries
  below : g.group < max

some_entries : (kinds : List Kind) (es : List EntryData) → (entries_field kinds).fits es ≡ true → 0 < length es
unfolding entries_field counted
some_entries kinds es h =
    let count = both ((where_it (nat_lt 0) Order u64_field).fits (length es)) ((chain (entry_after kinds) None (length es)).fits es) h in
    ltb-true 0 (length es) (both (u64_field.fits (length es)) (nat_lt 0 (length es)) count.0).1

module _ (max : ℕ) (kinds : List Kind) where
  is_kept : (last : Option SavedGroup) (g : SavedGroup) → (group_after max kinds last).fits g ≡ true → IsKept max kinds g
  unfolding group_field group_number
  is_kept last g fit =
      let before_it = option_map (λ x. x.group) last in
      let inner = both (g.entries.width == length kinds) ((before (group_number max before_it) (λ _. entries_field kinds)).fits (g.group, g.entries.entries)) fit in
      let number = both ((group_number max before_it).fits g.group) ((entries_field kinds).fits g.entries.entries) inner.1 in
      let within = both ((where_it (λ n. nat_lt n max) Range u16_field).fits g.group) (is_number_after before_it g.group) number.0 in
      record {
        width = eqb-true g.entries.width (length kinds) inner.0;
        some = some_entries kinds g.entries.entries number.1;
        below = ltb-true g.group max (both (u16_field.fits g.group) (nat_lt g.group max) within.0).1;
      }

record IsSpelled (s : Contents) : Type 0 where
  sources : Rises IsBefore s.sources
  groups : Rises IsBelow s.groups
  kept : All (IsKept s.max s.kinds) s.groups

is_spelled : (s : Contents) → IsSavepoint s → IsSpelled s
unfolding sources_field groups_field
is_spelled s h =
    let fits = have_spellings s h in
    record {
      sources = counted_rises source_after IsBefore (λ x y z. nat_list_cmp_total.trans x.uid y.uid z.uid) source_before (few_field 8) s.sources fits.sources;
      groups = counted_rises (group_after s.max s.kinds) IsBelow (λ x y z l m. omega (arith, l, m)) (group_below s.max s.kinds) u16_field s.groups fits.groups;
      kept = (counted-fits u16_field (group_after s.max s.kinds) (IsKept s.max s.kinds) (is_kept s.max s.kinds) s.groups fits.groups).1;
    }

-- ---- the key groups

-- two functions that agree from a number on
same_from : {X : Type 0} (f h : ℕ → List X) (a k : ℕ) → ((n : ℕ) → a ≤ n → f n ≡ h n) → flat_map f (range_with_len a k) ≡ flat_map h (range_with_len a k)
same_from f h a zero e = refl
same_from f h a (suc k) e = λ j. e a (omega arith) j ++ same_from f h (a + 1) k (λ n l. e n (omega (arith, l))) j

none_from : {X : Type 0} (f : ℕ → List X) (a k : ℕ) → ((n : ℕ) → f n ≡ []) → flat_map f (range_with_len a k) ≡ []
none_from f a zero e = refl
none_from f a (suc k) e = λ j. e a j ++ none_from f (a + 1) k e j

-- entries as a map has them
abbrev pairs : List EntryData → List (Pane × Aggregated)
pairs es = map (λ e. (e.pane, e.total)) es

pairs_of : (kinds : List Kind) (es : List EntryData) → entries_of (map (part_of kinds) es) ≡ pairs es
pairs_of kinds [] = refl
pairs_of kinds (e ∷ es) = ap (λ (xs : List (Pane × Aggregated)). (e.pane, e.total) ∷ xs) (pairs_of kinds es)

panes_of : (es : List EntryData) → map (λ e. e.0) (pairs es) ≡ map (λ e. e.pane) es
panes_of [] = refl
panes_of (e ∷ es) = ap (λ (xs : List Pane). e.pane ∷ xs) (panes_of es)

entries_back : (es : List EntryData) → map saved_entry (pairs es) ≡ es
entries_back [] = refl
entries_back (e ∷ es) = ap (λ (xs : List EntryData). e ∷ xs) (entries_back es)

all_pass : (p : Pane → Bool) (es : List EntryData) → All (λ e. p e.pane ≡ true) es → where_key pane_cmp p (pairs es) ≡ pairs es
all_pass p [] h = refl
all_pass p (e ∷ es) h = ap (λ b. cond b ((e.pane, e.total) ∷ where_key pane_cmp p (pairs es)) (where_key pane_cmp p (pairs es))) (h 0 e (omega arith)) ∙ ap (λ (xs : List (Pane × Aggregated)). (e.pane, e.total) ∷ xs) (all_pass p es (λ k d l. h (suc k) d (omega (arith, l))))

none_pass : (p : Pane → Bool) (es : List EntryData) → All (λ e. p e.pane ≡ false) es → where_key pane_cmp p (pairs es) ≡ []
none_pass p [] h = refl
none_pass p (e ∷ es) h = ap (λ b. cond b ((e.pane, e.total) ∷ where_key pane_cmp p (pairs es)) (where_key pane_cmp p (pairs es))) (h 0 e (omega arith)) ∙ none_pass p es (λ k d l. h (suc k) d (omega (arith, l)))

-- a group that has entries is saved as it is
saved_as_is : (width : ℕ) (g : SavedGroup) → g.entries.width ≡ width → 0 < length g.entries.entries → saved_group width g.group g.entries.entries ≡ g ∷ []
saved_as_is width g same some = by_entries g.entries.entries refl some
  where
    by_entries : (es : List EntryData) → g.entries.entries ≡ es → 0 < length es → saved_group width g.group es ≡ g ∷ []
    by_entries [] e l = absurd (omega (arith, l))
    by_entries (x ∷ xs) e l = λ j. record { group = g.group; entries = record { width = sym same j; entries = sym e j } } ∷ []

module _ (p : PlanData) (kinds : List Kind) where
  -- what stands in the windows of these key groups
  abbrev held : List SavedGroup → List (Pane × Aggregated)
  held gs = entries_of (flat_map (λ g. map (part_of kinds) g.entries.entries) gs)

  -- of these in one key group
  abbrev held_in : ℕ → List SavedGroup → List (Pane × Aggregated)
  held_in n gs = where_key pane_cmp (is_in_group p.max n) (held gs)

  held_in_both : (n : ℕ) (g : SavedGroup) (gs : List SavedGroup) → held_in n (g ∷ gs) ≡ where_key pane_cmp (is_in_group p.max n) (pairs g.entries.entries) ++ held_in n gs
  held_in_both n g gs =
      ap (where_key pane_cmp (is_in_group p.max n)) (map-append (λ (x : Part). (x.pane, x.acc.total)) (map (part_of kinds) g.entries.entries) (flat_map (λ g. map (part_of kinds) g.entries.entries) gs) ∙ ap (λ xs. xs ++ held gs) (pairs_of kinds g.entries.entries))
      ∙ filter-append (λ (e : Pane × Aggregated). is_in_group p.max n e.0) (pairs g.entries.entries) (held gs)

  abbrev HaveKeys : List SavedGroup → Type 0
  HaveKeys gs = All (λ g. All (λ e. key_group p.max e.pane.key ≡ g.group) g.entries.entries) gs

  of_own : (g : SavedGroup) (gs : List SavedGroup) → HaveKeys (g ∷ gs) → held_in g.group (g ∷ gs) ≡ pairs g.entries.entries ++ held_in g.group gs
  of_own g gs keys = held_in_both g.group g gs ∙ ap (λ xs. xs ++ held_in g.group gs) (all_pass (is_in_group p.max g.group) g.entries.entries (λ k d l. eq-eqb _ g.group (keys 0 g (omega arith) k d l)))

  of_other : (n : ℕ) (g : SavedGroup) (gs : List SavedGroup) → HaveKeys (g ∷ gs) → (g.group ≡ n → ⊥) → held_in n (g ∷ gs) ≡ held_in n gs
  of_other n g gs keys ne = held_in_both n g gs ∙ ap (λ xs. xs ++ held_in n gs) (none_pass (is_in_group p.max n) g.entries.entries (λ k d l. ne_eqb _ n (λ e. ne (sym (keys 0 g (omega arith) k d l) ∙ e))))

  more_keys : (g : SavedGroup) (gs : List SavedGroup) → HaveKeys (g ∷ gs) → HaveKeys gs
  more_keys g gs keys k d l = keys (suc k) d (omega (arith, l))

  -- no key group up to the first has more
  none_before : (n : ℕ) (gs : List SavedGroup) → HaveKeys gs → AllByRecursion (λ g. n < g.group) gs → held_in n gs ≡ []
  none_before n [] keys h = refl
  none_before n (g ∷ gs) keys h = of_other n g gs keys (λ e. let z = h.0 in omega (arith, z, e)) ∙ none_before n gs (more_keys g gs keys) h.1

  abbrev Ordered : SavedGroup → Type 0
  Ordered g = IsStrictlySortedBy pane_cmp (map (λ e. e.pane) g.entries.entries)

  in_order : (n : ℕ) (gs : List SavedGroup) → HaveKeys gs → Rises IsBelow gs → All Ordered gs → T (is_sorted pane_cmp (held_in n gs))
  in_order n [] keys up order = tt
  in_order n (g ∷ gs) keys up order =
      elim (cases_eq g.group n) [
        | inl same ↦ subst (λ m. T (is_sorted pane_cmp (held_in m (g ∷ gs)))) same
            (subst (λ es. T (is_sorted pane_cmp es)) (sym (of_own g gs keys ∙ ap (λ xs. pairs g.entries.entries ++ xs) (none_before g.group gs (more_keys g gs keys) up.0) ∙ append-nil (pairs g.entries.entries)))
            (sorted pane_cmp (pairs g.entries.entries) (subst (IsStrictlySortedBy pane_cmp) (sym (panes_of g.entries.entries)) (order 0 g (omega arith)))))
        | inr other ↦ subst (λ es. T (is_sorted pane_cmp es)) (sym (of_other n g gs keys other)) (in_order n gs (more_keys g gs keys) up.1 (λ k d l. order (suc k) d (omega (arith, l))))
      ]

  -- each key group has its own entries
  module _ (width : ℕ) where
    abbrev made : List SavedGroup → ℕ → List SavedGroup
    made gs n = saved_group width n (map saved_entry (held_in n gs))

    record IsMade (g : SavedGroup) : Type 0 where
      wide : g.entries.width ≡ width
      some : 0 < length g.entries.entries

    first_made : (g : SavedGroup) (gs : List SavedGroup) → HaveKeys (g ∷ gs) → Rises IsBelow (g ∷ gs) → IsMade g → made (g ∷ gs) g.group ≡ g ∷ []
    first_made g gs keys up is =
        ap (λ es. saved_group width g.group (map saved_entry es)) (of_own g gs keys ∙ ap (λ xs. pairs g.entries.entries ++ xs) (none_before g.group gs (more_keys g gs keys) up.0) ∙ append-nil (pairs g.entries.entries))
        ∙ ap (saved_group width g.group) (entries_back g.entries.entries)
        ∙ saved_as_is width g is.wide is.some

    groups_made : (gs : List SavedGroup) (n k : ℕ) → HaveKeys gs → Rises IsBelow gs → All IsMade gs → AllByRecursion (λ g. n ≤ g.group) gs → All (λ g. g.group < n + k) gs → flat_map (made gs) (range_with_len n k) ≡ gs
    groups_made [] n k keys up is from to = none_from (made []) n k (λ m. refl)
    groups_made (g ∷ gs) n zero keys up is from to = absurd (let z = from.0 in let y = to 0 g (omega arith) in omega (arith, y, z))
    groups_made (g ∷ gs) n (suc k) keys up is from to =
        elim (cases_eq g.group n) [
          | inl same ↦
              (let first : made (g ∷ gs) n ≡ g ∷ [] = subst (λ m. made (g ∷ gs) m ≡ g ∷ []) same (first_made g gs keys up (is 0 g (omega arith))) in
              let rest : flat_map (made (g ∷ gs)) (range_with_len (n + 1) k) ≡ gs =
              same_from (made (g ∷ gs)) (made gs) (n + 1) k (λ m l. ap (λ es. saved_group width m (map saved_entry es)) (of_other m g gs keys (λ e. omega (arith, e, l, same))))
              ∙ groups_made gs (n + 1) k (more_keys g gs keys) up.1 (λ j d l. is (suc j) d (omega (arith, l))) (weaken (λ h. g.group < h.group) (λ h. n + 1 ≤ h.group) gs (λ h l. omega (arith, l, same)) up.0) (λ j d l. let z = to (suc j) d (omega (arith, l)) in omega (arith, z)) in
              λ j. first j ++ rest j)
          | inr other ↦
              (let later : AllByRecursion (λ h. n < h.group) (g ∷ gs) = (omega (arith, other, from.0), weaken (λ h. g.group < h.group) (λ h. n < h.group) gs (λ h l. let z = from.0 in omega (arith, l, z)) up.0) in
              let first : made (g ∷ gs) n ≡ [] = ap (λ es. saved_group width n (map saved_entry es)) (none_before n (g ∷ gs) keys later) in
              ap (λ xs. xs ++ flat_map (made (g ∷ gs)) (range_with_len (n + 1) k)) first
              ∙ groups_made (g ∷ gs) (n + 1) k keys up is (weaken (λ h. n < h.group) (λ h. n + 1 ≤ h.group) (g ∷ gs) (λ h l. omega (arith, l)) later) (λ j d l. let z = to j d l in omega (arith, z)))
        ]

-- ---- the sources

-- what is found under a uid
abbrev Under : List (List ℕ × List SavedPartition) → List ℕ → Option (List SavedPartition)
Under es q = find_key uid_cmp q es

abbrev under_uids : List SavedSource → List (List ℕ × List SavedPartition)
under_uids xs = map (λ x. (x.uid, x.partitions)) xs

-- the test of a uid is the same whichever way round
same_test : (q u : List ℕ) → eq_by_cmp uid_cmp q u ≡ bytes_eq u q
same_test q u = sym (texts_ties q u) ∙ nat_list_eq_equiv.symm q u

-- where a test holds of all uids, it holds of one of them
holds_of : {X : Type 0} (f : X → List ℕ) (test : List ℕ → Bool) (q : List ℕ) (xs : List X) → list_all (λ x. test (f x)) xs ≡ true → list_any (λ x. bytes_eq (f x) q) xs ≡ true → test q ≡ true
holds_of f test q [] h some = absurd cc
holds_of f test q (x ∷ xs) h some =
    elim (cases_Bool (bytes_eq (f x) q)) [
      | inl same ↦ ap test (sym ((bytes_decides (f x) q).0 same)) ∙ (and_parts (test (f x)) _ h).0
      | inr other ↦ holds_of f test q xs (and_parts (test (f x)) _ h).1 (sym (ap (λ b. b || list_any (λ x. bytes_eq (f x) q) xs) other) ∙ some)
    ]

found_saved : (q : List ℕ) (xs : List SavedSource) → list_any (λ x. bytes_eq x.uid q) xs ≡ true → Under (under_uids xs) q ≡ Some (saved_under q xs)
found_saved q [] h = absurd cc
found_saved q (x ∷ xs) h =
    let choose : Bool → List SavedPartition = λ b. option_map_or (λ s. s.partitions) (cond b (Some x) (find (λ s. bytes_eq s.uid q) xs)) [] in
    ap (λ b. cond b (Some x.partitions) (Under (under_uids xs) q)) (same_test q x.uid)
    ∙ elim (cases_Bool (bytes_eq x.uid q)) [
      | inl same ↦ ap (λ b. cond b (Some x.partitions) (Under (under_uids xs) q)) same ∙ ap Some (sym (ap choose same))
      | inr other ↦ ap (λ b. cond b (Some x.partitions) (Under (under_uids xs) q)) other ∙ found_saved q xs (sym (ap (λ b. b || list_any (λ x. bytes_eq x.uid q) xs) other) ∙ h) ∙ ap Some (sym (ap choose other))
    ]

none_saved : (q : List ℕ) (xs : List SavedSource) → list_any (λ x. bytes_eq x.uid q) xs ≡ false → Under (under_uids xs) q ≡ None
none_saved q [] h = refl
none_saved q (x ∷ xs) h =
    ap (λ b. cond b (Some x.partitions) (Under (under_uids xs) q)) (same_test q x.uid)
    ∙ elim (cases_Bool (bytes_eq x.uid q)) [
      | inl same ↦ absurd (let z : true ≡ false = sym (ap (λ b. b || list_any (λ x. bytes_eq x.uid q) xs) same) ∙ h in cc)
      | inr other ↦ ap (λ b. cond b (Some x.partitions) (Under (under_uids xs) q)) other ∙ none_saved q xs (sym (ap (λ b. b || list_any (λ x. bytes_eq x.uid q) xs) other) ∙ h)
    ]

module _ (f : List ℕ → List SavedPartition) where
  abbrev given : List (List ℕ) → List (List ℕ × List SavedPartition)
  given us = map (λ u. (u, f u)) us

  found_given : (q : List ℕ) (us : List (List ℕ)) → list_any (bytes_eq q) us ≡ true → Under (given us) q ≡ Some (f q)
  found_given q [] h = absurd cc
  found_given q (u ∷ us) h =
      ap (λ b. cond b (Some (f u)) (Under (given us) q)) (sym (texts_ties q u))
      ∙ elim (cases_Bool (bytes_eq q u)) [
        | inl same ↦ ap (λ b. cond b (Some (f u)) (Under (given us) q)) same ∙ ap (λ w. Some (f w)) (sym ((bytes_decides q u).0 same))
        | inr other ↦ ap (λ b. cond b (Some (f u)) (Under (given us) q)) other ∙ found_given q us (sym (ap (λ b. b || list_any (bytes_eq q) us) other) ∙ h)
      ]

  none_given : (q : List ℕ) (us : List (List ℕ)) → list_any (bytes_eq q) us ≡ false → Under (given us) q ≡ None
  none_given q [] h = refl
  none_given q (u ∷ us) h =
      ap (λ b. cond b (Some (f u)) (Under (given us) q)) (sym (texts_ties q u))
      ∙ elim (cases_Bool (bytes_eq q u)) [
        | inl same ↦ absurd (let z : true ≡ false = sym (ap (λ b. b || list_any (bytes_eq q) us) same) ∙ h in cc)
        | inr other ↦ ap (λ b. cond b (Some (f u)) (Under (given us) q)) other ∙ none_given q us (sym (ap (λ b. b || list_any (bytes_eq q) us) other) ∙ h)
      ]

  given_uids : (us : List (List ℕ)) → map (λ e. e.0) (given us) ≡ us
  given_uids [] = refl
  given_uids (u ∷ us) = ap (λ (vs : List (List ℕ)). u ∷ vs) (given_uids us)

abbrev as_source : List ℕ × List SavedPartition → SavedSource
as_source e = record { uid = e.0; partitions = e.1 }

sources_back : (xs : List SavedSource) → map as_source (under_uids xs) ≡ xs
sources_back [] = refl
sources_back (x ∷ xs) = ap (λ (ys : List SavedSource). x ∷ ys) (sources_back xs)

given_back : (p : PlanData) (ss : List (List SavedPartition)) (us : List (List ℕ)) → map as_source (given (partitions_under p ss) us) ≡ map (saved_source p ss) us
given_back p ss [] = refl
given_back p ss (u ∷ us) = ap (λ (ys : List SavedSource). saved_source p ss u ∷ ys) (given_back p ss us)

uids_after : (x : SavedSource) (xs : List SavedSource) → AllByRecursion (IsBefore x) xs → AllByRecursion (λ u. uid_cmp x.uid u ≡ Less) (map (λ e. e.0) (under_uids xs))
uids_after x [] h = tt
uids_after x (y ∷ ys) h = (h.0, uids_after x ys h.1)

uids_rise : (xs : List SavedSource) → Rises IsBefore xs → IsStrictlySortedBy uid_cmp (map (λ e. e.0) (under_uids xs))
unfolding IsStrictlySortedBy
uids_rise [] h = tt
uids_rise (x ∷ xs) h = (uids_after x xs h.0, uids_rise xs h.1)

-- the place of a source of the plan, and what is saved of it
module _ (olds : List SavedSource) (q : List ℕ) (rest : List (List ℕ)) where
  abbrev place : List SourceSpec → ℕ
  place xs = position_or_len (bytes_eq q) (map (λ s. s.uid) xs ++ rest)

  at_place : (xs : List SourceSpec) → list_any (bytes_eq q) (map (λ s. s.uid) xs) ≡ true → (place xs < length xs) × (slice_index_or (map (λ source. saved_under source.uid olds) xs) (place xs) [] ≡ saved_under q olds)
  at_place [] h = absurd cc
  at_place (x ∷ xs) h =
      elim (cases_Bool (bytes_eq q x.uid)) [
        | inl same ↦ rw same (omega arith, ap (λ u. saved_under u olds) (sym ((bytes_decides q x.uid).0 same)))
        | inr other ↦ (let r = at_place xs (sym (ap (λ b. b || list_any (bytes_eq q) (map (λ s. s.uid) xs)) other) ∙ h) in let next : 1 + place xs ≡ suc (place xs) = omega arith in rw (other, next) (omega (arith, r.0), r.1))
      ]

  at_uid : (xs : List SourceSpec) → list_any (bytes_eq q) (map (λ s. s.uid) xs) ≡ true
      → option_map_or (λ x. slice_index_or (map (λ source. saved_under source.uid olds) xs) x []) (position (bytes_eq q) (map (λ s. s.uid) xs ++ rest)) [] ≡ saved_under q olds
  at_uid xs h =
      let r = at_place xs h in
      let long : place xs < length (map (λ s. s.uid) xs ++ rest) = omega (arith, r.0, length-append (map (λ s. s.uid) xs) rest, length-map xs (λ s. s.uid)) in
      ap (λ b. option_map_or (λ x. slice_index_or (map (λ source. saved_under source.uid olds) xs) x []) (cond b (Some (place xs)) None) []) (lt-ltb (place xs) (length (map (λ s. s.uid) xs ++ rest)) long) ∙ r.1

partitions_are : (p : PlanData) (olds : List SavedSource) (q : List ℕ) → list_any (bytes_eq q) (keys p) ≡ true → partitions_under p (map (λ source. saved_under source.uid olds) p.sources) q ≡ saved_under q olds
partitions_are p olds q h =
    ap (λ us. option_map_or (λ x. slice_index_or (map (λ source. saved_under source.uid olds) p.sources) x []) (position (bytes_eq q) us) []) (append_assoc (keys p) (map (λ f. f.uid) p.filters) (p.window.uid ∷ []))
    ∙ at_uid olds q (map (λ f. f.uid) p.filters ++ p.window.uid ∷ []) p.sources h

-- the sources are those that are saved of what the savepoint has for the plan's
sources_are : AscendingIsInOrder → (p : PlanData) (olds : List SavedSource) → Rises IsBefore olds
    → list_all (λ x. list_any (λ source. bytes_eq source.uid x.uid) p.sources) olds ≡ true → list_all (λ source. list_any (λ x. bytes_eq x.uid source.uid) olds) p.sources ≡ true
    → map (saved_source p (map (λ source. saved_under source.uid olds) p.sources)) (source_uids p) ≡ olds
sources_are rising p olds up known all =
    let ss = map (λ source. saved_under source.uid olds) p.sources in
    let order = rising.0 (keys p) in
    let f = partitions_under p ss in
    let same : under_uids olds ≡ given f (source_uids p) =
    same_entries uid_cmp nat_list_cmp_total (slice_cmp-IsAntisymmetric nat_cmp-IsAntisymmetric) (under_uids olds) (given f (source_uids p)) (sorted uid_cmp (under_uids olds) (uids_rise olds up))
    (sorted uid_cmp (given f (source_uids p)) (subst (IsStrictlySortedBy uid_cmp) (sym (given_uids f (source_uids p))) order.rises))
    (λ q. elim (cases_Bool (list_any (bytes_eq q) (keys p))) [
      | inl is ↦
          found_saved q olds (holds_of (λ s. s.uid) (λ u. list_any (λ x. bytes_eq x.uid u) olds) q p.sources all (turned (λ s. s.uid) q p.sources ∙ is))
          ∙ ap Some (sym (partitions_are p olds q is))
          ∙ sym (found_given f q (source_uids p) (order.members (bytes_eq q) ∙ is))
      | inr none ↦
          none_saved q olds (elim (cases_Bool (list_any (λ x. bytes_eq x.uid q) olds)) [
            | inl some ↦ absurd (let z : true ≡ false = sym (holds_of (λ x. x.uid) (λ u. list_any (λ source. bytes_eq source.uid u) p.sources) q olds known some) ∙ turned (λ s. s.uid) q p.sources ∙ none in cc)
            | inr nothing ↦ nothing
          ])
          ∙ sym (none_given f q (source_uids p) (order.members (bytes_eq q) ∙ none))
    ]) in
    sym (given_back p ss (source_uids p)) ∙ ap (map as_source) (sym same) ∙ sources_back olds

-- ---- the whole of it

pub is_of_start : AscendingIsInOrder → AcceptedHaveGroups → (p : PlanData) (i : InputData) (old : Contents) (s : StartData) → IsSavepoint old → start_or_fault p i old ≡ Ok s → savepoint_of p s.sources (windows_of s) s.number ≡ old
unfolding plan_requirements has_max has_known_uids has_all_uids has_plan
is_of_start rising have p i old s savepoint accepted =
    let said = no_fault _ (start_of p old) s accepted in
    let max = met_first MaxParallelism (has_max p old) _ said.0 in
    let uid = met_first UnknownUid (has_known_uids p old) _ max.1 in
    let all = met_first MissingUid (has_all_uids p old) _ uid.1 in
    let plan = met_first PlanChanged (has_plan p old) _ all.1 in
    let known = and_parts _ _ uid.0 in
    let recorded = and_parts _ (are_kinds old.kinds p.window.aggregates) plan.0 in
    let spelled = is_spelled old savepoint in
    let groups : HasGroups p (start_of p old) = subst (HasGroups p) (sym said.1) (have p i old s savepoint accepted) in
    let max_is : p.max ≡ old.max = sym (eqb-true old.max p.max max.0) in
    let kinds = and_parts _ _ recorded.1 in
    let kinds_are : old.kinds ≡ map kind_of p.window.aggregates = kinds_in old.kinds p.window.aggregates (eqb-true _ _ kinds.0) kinds.1 in
    let width : length old.kinds ≡ length p.window.aggregates = eqb-true _ _ kinds.0 in
    let have_keys : HaveKeys p old.kinds old.groups = λ k d l. (groups.each k d l).keys in
    let in_groups : saved_groups p.max (length p.window.aggregates) (windows_of (start_of p old)) ≡ old.groups =
    same_from (λ n. saved_group (length p.window.aggregates) n (entries_in_group p.max (windows_of (start_of p old)) n)) (made p old.kinds (length p.window.aggregates) old.groups) 0 p.max (λ n l. ap (λ es. saved_group (length p.window.aggregates) n (map saved_entry es)) (filtered (is_in_group p.max n) (held p old.kinds old.groups) (in_order p old.kinds n old.groups have_keys spelled.groups (λ k d l. (groups.each k d l).ordered))))
    ∙ groups_made p old.kinds (length p.window.aggregates) old.groups 0 p.max have_keys spelled.groups (λ k d l. let z = spelled.kept k d l in record { wide = z.width ∙ width; some = z.some }) (from_zero old.groups) (λ k d l. up_to (get_or old.groups k d).group old.max p.max max_is (spelled.kept k d l).below) in
    let in_sources = sources_are rising p old.sources spelled.sources known.0 all.0 in
    subst (λ (d : StartData). savepoint_of p d.sources (windows_of d) d.number ≡ old) said.1 (λ j. record {
      number = old.number;
      plan_record = sym ((bytes_decides old.plan_record (plan_record p)).0 recorded.0) j;
      max = max_is j;
      sources = in_sources j;
      window_uid = sym ((bytes_decides old.window_uid p.window.uid).0 known.1) j;
      kinds = sym kinds_are j;
      groups = in_groups j;
    })
  where
    from_zero : (gs : List SavedGroup) → AllByRecursion (λ g. 0 ≤ g.group) gs
    from_zero [] = tt
    from_zero (g ∷ gs) = (omega arith, from_zero gs)

    up_to : (group m n : ℕ) → n ≡ m → group < m → group < 0 + n
    up_to group m n e l = omega (arith, e, l)
