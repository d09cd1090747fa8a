-- Counted lists are spelled as their count and their items.
use Rattle.std.proofs.Common.{◌≡◌, ℕ, suc, ◌+◌, ◌<◌, ℤ, true, List, [], ◌∷◌, ◌++◌, length, get_or, take, slice_get, Option, Some, None, Result, Ok, Err, refl, sym, ap, ◌∙◌, append_assoc}
use Rattle.std.specs.Prelude.{OnOk, nat_lt, ◌==◌}
use Rattle.std.specs.Option.{option_map}
use Rattle.std.proofs.lemmas.Bool.{ltb-true}
use Rattle.std.proofs.lemmas.List.{flat_map_more, take_more}
use Rattle.std.proofs.lemmas.Option.{get_or_from_slice_get, slice_get_within}
use Rattle.std.specs.List.{All, flat_map, list_all}
use Rattle.byte_fields.specs.Fields.{u8_field, few_field, u16_field, u64_field, i128_field}
use Rattle.byte_fields.specs.declared.fault.FieldFault.TheVariants.{Order}
use Rattle.byte_fields.specs.Format.{where_it, before}
use Rattle.plan_model.specs.Uids.{is_nat_within, uid_field}
use Rattle.byte_fields.proofs.Exact.{both, counted-spell, counted-spell-where, counted-fits, sized-fits}
use Rattle.aggregates.specs.declared.kind.Kind.{Kind}
use Rattle.savepoint_codec.specs.declared.savepoint.SavedSource.{SavedSource}
use Rattle.savepoint_codec.specs.declared.savepoint.SavedGroup.{SavedGroup}
use Rattle.savepoint_codec.specs.EntriesData.{EntryData}
use Rattle.savepoint_codec.specs.Fields.{number_field, max_field, is_uid_after, is_pane_after, pane_field, partition_field, partitions_field, source_field, source_after, sources_field, kind_field, kinds_field, count_field, number_of_kind, numbers_field, entry_field, entry_after, entries_field, group_number, group_field, group_after, groups_field}
use Rattle.savepoint_codec.specs.declared.savepoint.Contents.{Contents}
use Rattle.savepoint_codec.specs.Layout.{IsSavepoint, unindexed_format, fields, front_field, front_of, record_field}
use Rattle.savepoint_codec.specs.Writing.{HasFewPartitions, IsOfKinds, AreOfKinds, IsShort, entry_bytes}

-- a count is put, and then the items
pub puts : {E : Type 0} (r : Result (Unit {0}) E) (old mid new count items spelled : List ℕ) → mid ≡ old ++ count → spelled ≡ count ++ items → OnOk r (new ≡ mid ++ items) → OnOk r (new ≡ old ++ spelled)
puts (Ok x) old mid new count items spelled first said h = h ∙ ap (λ (xs : List ℕ). xs ++ items) first ∙ append_assoc old count items ∙ ap (λ (xs : List ℕ). old ++ xs) (sym said)
puts (Err e) old mid new count items spelled first said h = tt

pub sources-spell : (ss : List SavedSource) → sources_field.spell ss ≡ u8_field.spell (length ss) ++ flat_map (source_field None).spell ss
unfolding sources_field source_field few_field
sources-spell ss = counted-spell (few_field 8) source_after (source_field None).spell (λ last x. refl) ss

numbers-spell : (kinds : List Kind) (count : ℕ) (zs : List ℤ) → length zs ≡ length kinds → (numbers_field kinds count).spell zs ≡ flat_map i128_field.spell zs
unfolding numbers_field number_of_kind
numbers-spell [] count [] h = refl
numbers-spell [] count (z ∷ zs) h = absurd cc
numbers-spell (k ∷ kinds) count [] h = absurd cc
numbers-spell (k ∷ kinds) count (z ∷ zs) h = ap (λ (bytes : List ℕ). i128_field.spell z ++ bytes) (numbers-spell kinds count zs cc)

pub entry-spell : (kinds : List Kind) (last : Option EntryData) (e : EntryData) → IsOfKinds kinds e → (entry_after kinds last).spell e ≡ entry_bytes e
unfolding entry_field count_field
entry-spell kinds last e h =
    ap (λ (bytes : List ℕ). pane_field.spell e.pane ++ (u64_field.spell e.total.count ++ bytes)) (numbers-spell kinds e.total.count e.total.numbers h)
    ∙ sym (append_assoc (pane_field.spell e.pane) (u64_field.spell e.total.count) (flat_map i128_field.spell e.total.numbers))

pub entries-spell : (kinds : List Kind) (es : List EntryData) → All (IsOfKinds kinds) es → (entries_field kinds).spell es ≡ u64_field.spell (length es) ++ flat_map entry_bytes es
unfolding entries_field
entries-spell kinds es all = counted-spell-where _ (entry_after kinds) entry_bytes (IsOfKinds kinds) (λ last e h. entry-spell kinds last e h) es all

pub groups-spell : (max : ℕ) (kinds : List Kind) (gs : List SavedGroup) → (groups_field max kinds).spell gs ≡ u16_field.spell (length gs) ++ flat_map (group_field max kinds None).spell gs
unfolding groups_field group_field group_number
groups-spell max kinds gs = counted-spell u16_field (group_after max kinds) (group_field max kinds None).spell (λ last x. refl) gs

-- one item more is spelled
pub one_more : {X : Type 0} (spelled : X → List ℕ) (xs : List X) (i : ℕ) (x : X) → slice_get xs i ≡ Some x → flat_map spelled (take (i + 1) xs) ≡ flat_map spelled (take i xs) ++ spelled x
one_more spelled xs i x h =
    ap (flat_map spelled) (take_more xs i x (slice_get_within xs i x h))
    ∙ ap (λ y. flat_map spelled (take i xs ++ y ∷ [])) (get_or_from_slice_get xs i x x h)
    ∙ sym (flat_map_more spelled [] (take i xs) x)

-- behind the items so far, one more item is spelled
pub spelled_more : {X : Type 0} (spell : X → List ℕ) (xs : List X) (i : ℕ) (d x : X) (front old new : List ℕ) → i < length xs → x ≡ get_or xs i d → old ≡ front ++ flat_map spell (take i xs) → new ≡ old ++ spell x → new ≡ front ++ flat_map spell (take (i + 1) xs)
spelled_more {X} spell xs i d x front old new below here before more =
    more ∙ ap (λ (bytes : List ℕ). bytes ++ spell x) before ∙ flat_map_more spell front (take i xs) x
    ∙ ap (λ (ys : List X). front ++ flat_map spell ys) (ap (λ (y : X). take i xs ++ y ∷ []) here ∙ sym (take_more xs i d below))

-- the lists of a savepoint are short enough for their counts
is_byte : (most n : ℕ) → (few_field most).fits n ≡ true → n < 256
unfolding few_field u8_field
is_byte most n h = ltb-true _ _ (both (u8_field.fits n) (is_nat_within 1 most n) h).0

is_short : (n : ℕ) → u16_field.fits n ≡ true → n < 65536
unfolding u16_field
is_short n h = ltb-true _ _ h

source_short : (last : Option SavedSource) (s : SavedSource) → (source_after last).fits s ≡ true → HasFewPartitions s
unfolding source_field partitions_field
source_short last s h =
    let named = where_it (is_uid_after (option_map (λ x. x.uid) last)) Order uid_field in
    let parts = both (named.fits s.uid) (partitions_field.fits s.partitions) h in
    is_byte 64 (length s.partitions) (both ((few_field 64).fits (length s.partitions)) (list_all partition_field.fits s.partitions) parts.1).0

numbers_long : (kinds : List Kind) (count : ℕ) (zs : List ℤ) → (numbers_field kinds count).fits zs ≡ true → length zs ≡ length kinds
unfolding numbers_field
numbers_long [] count [] h = refl
numbers_long [] count (z ∷ zs) h = absurd cc
numbers_long (k ∷ kinds) count [] h = absurd cc
numbers_long (k ∷ kinds) count (z ∷ zs) h = ap suc (numbers_long kinds count zs (both ((number_of_kind count k).fits z) ((numbers_field kinds count).fits zs) h).1)

entry_long : (kinds : List Kind) (last : Option EntryData) (e : EntryData) → (entry_after kinds last).fits e ≡ true → IsOfKinds kinds e
unfolding entry_field
entry_long kinds last e h =
    let after = where_it (is_pane_after (option_map (λ x. x.pane) last)) Order pane_field in
    let parts = both (after.fits e.pane) ((before count_field (numbers_field kinds)).fits (e.total.count, e.total.numbers)) h in
    numbers_long kinds e.total.count e.total.numbers (both (count_field.fits e.total.count) ((numbers_field kinds e.total.count).fits e.total.numbers) parts.1).1

pub group_long : (max : ℕ) (kinds : List Kind) (last : Option SavedGroup) (g : SavedGroup) → (group_after max kinds last).fits g ≡ true → AreOfKinds kinds g
unfolding group_field entries_field
group_long max kinds last g h =
    let number = group_number max (option_map (λ x. x.group) last) in
    let parts = both (g.entries.width == length kinds) ((before number (λ _. entries_field kinds)).fits (g.group, g.entries.entries)) h in
    let rest = both (number.fits g.group) ((entries_field kinds).fits g.entries.entries) parts.1 in
    (counted-fits (where_it (nat_lt 0) Order u64_field) (entry_after kinds) (IsOfKinds kinds) (entry_long kinds) g.entries.entries rest.1).1

-- each field of a savepoint has a spelling
pub record HaveSpellings (s : Contents) : Type 0 where
  pub number : number_field.fits s.number ≡ true
  pub plan_record : record_field.fits s.plan_record ≡ true
  pub max : max_field.fits s.max ≡ true
  pub sources : sources_field.fits s.sources ≡ true
  pub window_uid : uid_field.fits s.window_uid ≡ true
  pub kinds : kinds_field.fits s.kinds ≡ true
  pub groups : (groups_field s.max s.kinds).fits s.groups ≡ true

-- what stands before the key groups has a spelling, and so have they
pub in_parts : (s : Contents) → IsSavepoint s → (front_field.fits (front_of s) ≡ true) × ((groups_field s.max s.kinds).fits s.groups ≡ true)
unfolding unindexed_format fields
in_parts s h = both (front_field.fits (front_of s)) ((groups_field s.max s.kinds).fits s.groups) h

pub have_spellings : (s : Contents) → IsSavepoint s → HaveSpellings s
unfolding front_field
have_spellings s h =
    let parts = in_parts s h in
    let a = both (number_field.fits s.number) _ parts.0 in
    let b = both (record_field.fits s.plan_record) _ a.1 in
    let d = both (max_field.fits s.max) _ b.1 in
    let e = both (sources_field.fits s.sources) _ d.1 in
    let f = both (uid_field.fits s.window_uid) (kinds_field.fits s.kinds) e.1 in
    record { number = a.0; plan_record = b.0; max = d.0; sources = e.0; window_uid = f.0; kinds = f.1; groups = parts.1 }

pub short_contents : (s : Contents) → IsSavepoint s → IsShort s
unfolding record_field sources_field kinds_field groups_field
short_contents s h =
    let fits = have_spellings s h in
    let sources = counted-fits (few_field 8) source_after HasFewPartitions source_short s.sources fits.sources in
    let kinds = both ((few_field 8).fits (length s.kinds)) (list_all kind_field.fits s.kinds) fits.kinds in
    let groups = counted-fits u16_field (group_after s.max s.kinds) (AreOfKinds s.kinds) (group_long s.max s.kinds) s.groups fits.groups in
    record {
      plan_record = is_short (length s.plan_record) (sized-fits u16_field s.plan_record fits.plan_record);
      few_sources = is_byte 8 (length s.sources) sources.0;
      sources = sources.1;
      kinds = is_byte 8 (length s.kinds) kinds.0;
      few_groups = is_short (length s.groups) groups.0;
      groups = groups.1;
    }
