-- What is gathered has a spelling.
use Rattle.std.proofs.Common.{◌≡◌, ℕ, zero, suc, ◌+◌, ◌*◌, ◌^◌, ◌<◌, ◌≤◌, ℤ, pos, negsuc, Bool, true, false, cond, not, ◌&&◌, ◌||◌, List, [], ◌∷◌, ◌++◌, length, map, get_or, Option, Some, None, refl, sym, ap, subst, ◌∙◌, append_assoc, arith}
use Rattle.std.specs.Prelude.{T, position, bytes_eq, slice_index_or}
use Rattle.std.specs.Option.{option_map, option_map_or}
use Rattle.std.specs.List.{All, AllByRecursion, flat_map, list_any, range_with_len, position_or_len}
use Rattle.std.specs.List.Sorted.{IsStrictlySortedBy}
use Rattle.std.specs.Ordering.{nat_cmp, int_cmp, is_lt, is_eq, ordering_then}
use Rattle.std.specs.Cmp.{Equal-is}
use Rattle.std.specs.Cmp.Lexicographic.{slice_cmp, nat_list_eq_equiv}
use Rattle.std.specs.declared.cmp.Ordering.TheVariants.{Less, Equal, Greater}
use Rattle.std.specs.FinMap.{FinMap, entries, entries_sorted, int_cmp-IsAntisymmetric}
use Rattle.std.specs.FinMap.Entries.{is_sorted, below_all, where_key, is_sorted-where_key}
use Rattle.std.proofs.lemmas.Bool.{lt-ltb, le-leb, leb-true, ltb-true, eq-eqb}
use Rattle.std.proofs.lemmas.List.{length-append, length-map, get_or-map}
use Rattle.std.proofs.lemmas.List.Elements.{recursion_from_All}
use Rattle.std.proofs.lemmas.List.Sums.{list_all-from_AllPass}
use Rattle.byte_fields.specs.Format.{Format, before}
use Rattle.byte_fields.specs.Lists.{chain, counted}
use Rattle.byte_fields.specs.Fields.{u8_field, few_field, u16_field, u64_field, i64_field, i128_field, is_i64, is_i128}
use Rattle.byte_fields.proofs.Exact.{both, and_true, is_i64_from}
use Rattle.key_groups.specs.declared.limits.TheConstants.{MOST_GROUPS}
use Rattle.plan_model.specs.declared.spec.Pane.{Pane}
use Rattle.plan_model.specs.declared.spec.SourceSpec.{SourceSpec}
use Rattle.plan_model.specs.declared.limits.TheConstants.{MOST_RECORDS}
use Rattle.plan_model.specs.Aggregates.{Aggregated}
use Rattle.plan_model.specs.PlanData.{PlanData, IsPlan, uids}
use Rattle.plan_model.specs.Rows.{pane_cmp}
use Rattle.plan_model.specs.Uids.{is_uid}
use Rattle.plan_model.proofs.Facts.{uid_fits}
use Rattle.layout_rules.specs.Layouts.{partition_counts}
use Rattle.aggregates.specs.declared.kind.Kind.{Kind}
use Rattle.aggregates.specs.declared.kind.Kind.TheVariants.{Count, Sum, Least, Greatest}
use Rattle.aggregates.specs.Kinds.{is_number, are_numbers}
use Rattle.savepoint_codec.specs.EntriesData.{EntryData}
use Rattle.savepoint_codec.specs.declared.savepoint.SavedPartition.{SavedPartition}
use Rattle.savepoint_codec.specs.declared.savepoint.SavedSource.{SavedSource}
use Rattle.savepoint_codec.specs.declared.savepoint.SavedGroup.{SavedGroup}
use Rattle.savepoint_codec.specs.Fields.{is_less, is_uid_after, partition_field, partitions_field, source_field, source_after, sources_field, kind_field, kinds_field, pane_field, is_pane_after, count_field, number_of_kind, numbers_field, entry_field, entry_after, entries_field, is_number_after, group_number, group_field, group_after, groups_field}
use Rattle.plan_record.specs.Laws.{IsInOrder}
use Rattle.gather.specs.Saved.{saved_entry, saved_group, saved_source, partitions_under}
use Rattle.gather.specs.Sources.{AreTyped, IsTypedPartition}

-- each item fits behind the one before
abbrev pub Links : {X : Type 0} → (Option X → Format X) → Option X → List X → Type 0
Links item last [] = Unit {0}
Links item last (x ∷ xs) = ((item last).fits x ≡ true) × Links item (Some x) xs

chain_fits : {X : Type 0} (item : Option X → Format X) (last : Option X) (xs : List X) → Links item last xs → (chain item last (length xs)).fits xs ≡ true
unfolding chain
chain_fits item last [] h = refl
chain_fits item last (x ∷ xs) h = and_true _ _ h.0 (chain_fits item (Some x) xs h.1)

counted_fits : {X : Type 0} (count : Format ℕ) (item : Option X → Format X) (xs : List X) → count.fits (length xs) ≡ true → Links item None xs → (counted count item).fits xs ≡ true
unfolding counted
counted_fits count item xs few h = and_true _ _ few (chain_fits item None xs h)

few_fits : (most n : ℕ) → most < 256 → 1 ≤ n → n ≤ most → (few_field most).fits n ≡ true
unfolding few_field u8_field
few_fits most n small some few = and_true _ _ (lt-ltb n 256 (omega arith)) (and_true _ _ (le-leb 1 n some) (le-leb n most few))

-- partitions
partition_fits : (x : SavedPartition) → IsTypedPartition x → partition_field.fits x ≡ true
unfolding partition_field u64_field i64_field
partition_fits x h = and_true _ _ (lt-ltb x.offset (2 ^ 64) h.offset) (is_i64_from x.watermark h.watermark)

partitions_fit : (ps : List SavedPartition) → 1 ≤ length ps → length ps ≤ 64 → AreTyped ps → partitions_field.fits ps ≡ true
unfolding partitions_field
partitions_fit ps some few typed = and_true _ _ (few_fits 64 (length ps) (omega arith) some few) (list_all-from_AllPass partition_field.fits ps (λ k d l. partition_fits (get_or ps k d) (typed k d l)))

first_in : (t : List ℕ → Bool) (fs bs : List (List ℕ)) → list_any t fs ≡ true → position_or_len t (fs ++ bs) < length fs
first_in t [] bs h = absurd cc
first_in t (a ∷ fs) bs h =
    elim (t a) as (λ b. (b || list_any t fs) ≡ true → cond (not b) (1 + position_or_len t (fs ++ bs)) 0 < suc (length fs)) [
      | true ↦ λ e. omega arith
      | false ↦ λ e. omega (arith, first_in t fs bs e)
    ] h

position_in : (t : List ℕ → Bool) (fs bs : List (List ℕ)) → list_any t fs ≡ true → position t (fs ++ bs) ≡ Some (position_or_len t (fs ++ bs))
position_in t fs bs h =
    let n = position_or_len t (fs ++ bs) in
    let lt = first_in t fs bs h in
    ap (λ b. cond b (Some n) None) (lt-ltb n (length (fs ++ bs)) (omega (arith, lt, length-append fs bs)))

abbrev pub no_source : SourceSpec
no_source = record { uid = []; partitions = 0; bound = None }

pub under_fits : (p : PlanData) (sources : List (List SavedPartition)) (uid : List ℕ) → IsPlan p → map (λ ps. length ps) sources ≡ partition_counts p → All AreTyped sources → list_any (bytes_eq uid) (map (λ s. s.uid) p.sources) ≡ true
    → partitions_field.fits (partitions_under p sources uid) ≡ true
under_fits p sources uid ip shape typed known =
    let fs = map (λ s. s.uid) p.sources in
    let bs = map (λ f. f.uid) p.filters ++ p.window.uid ∷ [] in
    let t = bytes_eq uid in
    let x = position_or_len t (fs ++ bs) in
    let within : x < length p.sources = omega (arith, first_in t fs bs known, length-map p.sources (λ s. s.uid)) in
    let same : length sources ≡ length p.sources = sym (length-map sources (λ ps. length ps)) ∙ ap length shape ∙ length-map p.sources (λ s. s.partitions) in
    let inside : x < length sources = omega (arith, same, within) in
    let there : position t (uids p) ≡ Some x = ap (position t) (append_assoc fs (map (λ f. f.uid) p.filters) (p.window.uid ∷ [])) ∙ position_in t fs bs known in
    let size : length (get_or sources x []) ≡ (get_or p.sources x no_source).partitions =
    sym (get_or-map (λ ps. length ps) sources x [] 0 inside) ∙ ap (λ l. get_or l x 0) shape ∙ get_or-map (λ s. s.partitions) p.sources x no_source 0 within in
    let some = ip.partitioned x no_source within in
    let few = ip.partitions_few x no_source within in
    subst (λ o. partitions_field.fits (option_map_or (λ k. slice_index_or sources k []) o []) ≡ true) (sym there)
    (partitions_fit (get_or sources x []) (omega (arith, size, some)) (omega (arith, size, few)) (typed x [] inside))

-- sources
abbrev After : Option SavedSource → List (List ℕ) → Type 0
After None us = Unit {0}
After (Some s) us = AllByRecursion (λ y. slice_cmp nat_cmp s.uid y ≡ Less) us

abbrev IsNamed : PlanData → List (List SavedPartition) → List ℕ → Type 0
IsNamed p sources uid = (is_uid uid ≡ true) × (partitions_field.fits (partitions_under p sources uid) ≡ true)

after_uid : (last : Option SavedSource) (u : List ℕ) (us : List (List ℕ)) → After last (u ∷ us) → is_uid_after (option_map (λ s. s.uid) last) u ≡ true
after_uid None u us h = refl
after_uid (Some s) u us h = ap is_less h.0

sources_link : (p : PlanData) (sources : List (List SavedPartition)) (us : List (List ℕ)) (last : Option SavedSource) → After last us → IsStrictlySortedBy (slice_cmp nat_cmp) us → AllByRecursion (IsNamed p sources) us → Links source_after last (map (saved_source p sources) us)
unfolding IsStrictlySortedBy source_field
sources_link p sources [] last a s n = tt
sources_link p sources (u ∷ us) last a s n =
    (and_true _ _ (and_true _ _ (uid_fits u n.0.0) (after_uid last u us a)) n.0.1, sources_link p sources us (Some (saved_source p sources u)) s.0 s.1 n.1)

pub sources_fit : (p : PlanData) (sources : List (List SavedPartition)) (us : List (List ℕ)) → 1 ≤ length us → length us ≤ 8 → IsStrictlySortedBy (slice_cmp nat_cmp) us → AllByRecursion (IsNamed p sources) us
    → sources_field.fits (map (saved_source p sources) us) ≡ true
unfolding sources_field
sources_fit p sources us some few s n =
    let long = length-map us (saved_source p sources) in
    counted_fits (few_field 8) source_after (map (saved_source p sources) us) (few_fits 8 _ (omega arith) (omega (arith, long, some)) (omega (arith, long, few))) (sources_link p sources us None tt s n)

-- the uids in order are those of the sources
pub or_true : (a b : Bool) → b ≡ true → (a || b) ≡ true
or_true true b h = refl
or_true false b h = h

pub weaken : {X : Type 0} (P Q : X → Type 0) (xs : List X) → ((x : X) → P x → Q x) → AllByRecursion P xs → AllByRecursion Q xs
weaken P Q [] f h = tt
weaken P Q (x ∷ xs) f h = (f x h.0, weaken P Q xs f h.1)

itself : (us : List (List ℕ)) → AllByRecursion (λ u. list_any (bytes_eq u) us ≡ true) us
itself [] = tt
itself (u ∷ us) =
    (ap (λ b. b || list_any (bytes_eq u) us) (nat_list_eq_equiv.refl u), weaken (λ w. list_any (bytes_eq w) us ≡ true) (λ w. list_any (bytes_eq w) (u ∷ us) ≡ true) us (λ w h. or_true (bytes_eq w u) (list_any (bytes_eq w) us) h) (itself us))

none_fails : (us : List (List ℕ)) → list_any (λ u. not (is_uid u)) us ≡ false → AllByRecursion (λ u. is_uid u ≡ true) us
none_fails [] h = tt
none_fails (u ∷ us) h = elim (is_uid u) as (λ b. (not b || list_any (λ u. not (is_uid u)) us) ≡ false → (b ≡ true) × AllByRecursion (λ u. is_uid u ≡ true) us) [
  | true ↦ λ e. (refl, none_fails us e)
  | false ↦ λ e. absurd cc
] h

all_uids : (us : List (List ℕ)) → All (λ u. is_uid u ≡ true) us → list_any (λ u. not (is_uid u)) us ≡ false
all_uids [] h = refl
all_uids (u ∷ us) h = ap (λ b. not b || list_any (λ u. not (is_uid u)) us) (h 0 u (omega arith)) ∙ all_uids us (λ k d l. h (suc k) d (omega (arith, l)))

some_there : (us : List (List ℕ)) → list_any (λ u. true) us ≡ true → 1 ≤ length us
some_there [] h = absurd cc
some_there (u ∷ us) h = omega arith

there_some : (us : List (List ℕ)) → 1 ≤ length us → list_any (λ u. true) us ≡ true
there_some [] h = absurd (omega arith)
there_some (u ∷ us) h = refl

pair : {X : Type 0} (P Q : X → Type 0) (xs : List X) → AllByRecursion P xs → AllByRecursion Q xs → AllByRecursion (λ x. P x × Q x) xs
pair P Q [] h k = tt
pair P Q (x ∷ xs) h k = ((h.0, k.0), pair P Q xs h.1 k.1)

pub record AreSourceUids (us : List (List ℕ)) (keys : List (List ℕ)) : Type 0 where
  pub some : 1 ≤ length us
  pub named : AllByRecursion (λ u. is_uid u ≡ true) us
  pub known : AllByRecursion (λ u. list_any (bytes_eq u) keys ≡ true) us

pub source_uids_are : (keys us : List (List ℕ)) → IsInOrder (slice_cmp nat_cmp) keys us → 1 ≤ length keys → All (λ u. is_uid u ≡ true) keys → AreSourceUids us keys
source_uids_are keys us h some named = record {
  some = some_there us (h.members (λ u. true) ∙ there_some keys some);
  named = none_fails us (h.members (λ u. not (is_uid u)) ∙ all_uids keys named);
  known = weaken (λ u. list_any (bytes_eq u) us ≡ true) (λ u. list_any (bytes_eq u) keys ≡ true) us (λ u e. sym (h.members (bytes_eq u)) ∙ e) (itself us);
}

pub all_named : (p : PlanData) (sources : List (List SavedPartition)) (us : List (List ℕ)) → IsPlan p → map (λ ps. length ps) sources ≡ partition_counts p → All AreTyped sources → AreSourceUids us (map (λ s. s.uid) p.sources) → AllByRecursion (IsNamed p sources) us
all_named p sources us ip shape typed h =
    pair (λ u. is_uid u ≡ true) (λ u. partitions_field.fits (partitions_under p sources u) ≡ true) us h.named
    (weaken (λ u. list_any (bytes_eq u) (map (λ s. s.uid) p.sources) ≡ true) (λ u. partitions_field.fits (partitions_under p sources u) ≡ true) us (λ u e. under_fits p sources u ip shape typed e) h.known)

-- kinds
pub kinds_fit : (kinds : List Kind) → 1 ≤ length kinds → length kinds ≤ 8 → kinds_field.fits kinds ≡ true
unfolding kinds_field kind_field
kinds_fit kinds some few = and_true _ _ (few_fits 8 (length kinds) (omega arith) some few) (list_all-from_AllPass (λ k. true) kinds (λ k d l. refl))

-- entries
small_i128 : (z : ℤ) → is_i64 z ≡ true → is_i128 z ≡ true
small_i128 (pos n) h = lt-ltb n (2 ^ 127) (omega (arith, ltb-true n (2 ^ 63) h))
small_i128 (negsuc n) h = lt-ltb n (2 ^ 127) (omega (arith, ltb-true n (2 ^ 63) h))

wide : (count : ℕ) (k : Kind) (z : ℤ) → count ≤ MOST_RECORDS → is_number count k z ≡ true → is_i128 z ≡ true
wide count Count z few h = subst (λ y. is_i128 y ≡ true) (sym (int_cmp-IsAntisymmetric z (pos count) ((Equal-is (int_cmp z (pos count))).0 h))) (lt-ltb count (2 ^ 127) (omega (arith, few)))
wide count Sum (pos n) few h = lt-ltb n (2 ^ 127) (omega (arith, few, leb-true n (count * 2 ^ 63) h))
wide count Sum (negsuc n) few h = lt-ltb n (2 ^ 127) (omega (arith, few, leb-true (suc n) (count * 2 ^ 63) h))
wide count Least z few h = small_i128 z h
wide count Greatest z few h = small_i128 z h

numbers_fit : (kinds : List Kind) (count : ℕ) (zs : List ℤ) → count ≤ MOST_RECORDS → are_numbers count kinds zs ≡ true → (numbers_field kinds count).fits zs ≡ true
unfolding numbers_field number_of_kind i128_field
numbers_fit [] count [] few h = refl
numbers_fit [] count (z ∷ zs) few h = absurd cc
numbers_fit (k ∷ ks) count [] few h = absurd cc
numbers_fit (k ∷ ks) count (z ∷ zs) few h =
    let parts = both (is_number count k z) (are_numbers count ks zs) h in
    and_true _ _ (and_true _ _ (wide count k z few parts.0) parts.0) (numbers_fit ks count zs few parts.1)

abbrev pub IsEntryOk : List Kind → EntryData → Type 0
IsEntryOk kinds e = (pane_field.fits e.pane ≡ true) × ((before count_field (numbers_field kinds)).fits (e.total.count, e.total.numbers) ≡ true)

pub counted_entry : (kinds : List Kind) (count : ℕ) (zs : List ℤ) → 1 ≤ count → count ≤ MOST_RECORDS → are_numbers count kinds zs ≡ true → (before count_field (numbers_field kinds)).fits (count, zs) ≡ true
unfolding count_field u64_field
counted_entry kinds count zs some few h = and_true _ _ (and_true _ _ (lt-ltb count (2 ^ 64) (omega (arith, few))) (and_true _ _ (le-leb 1 count some) (le-leb count MOST_RECORDS few))) (numbers_fit kinds count zs few h)

t_true : (b : Bool) → T b → b ≡ true
t_true true h = refl
t_true false h = absurd h

t_first : (a b : Bool) → T (a && b) → T a
t_first true b h = tt
t_first false b h = absurd h

t_second : (a b : Bool) → T (a && b) → T b
t_second true b h = h
t_second false b h = absurd h

later : (a b c d : Bool) → is_lt (ordering_then (cond a Less (cond b Greater Equal)) (cond c Less (cond d Greater Equal))) ≡ true → (a || (is_eq (cond a Less (cond b Greater Equal)) && c)) ≡ true
later true b c d h = refl
later false true c d h = absurd cc
later false false true d h = refl
later false false false true h = absurd cc
later false false false false h = absurd cc

abbrev AfterEntry : Option EntryData → List (Pane × Aggregated) → Type 0
AfterEntry None es = Unit {0}
AfterEntry (Some e) es = T (below_all pane_cmp e.pane es)

after_pane : (last : Option EntryData) (e : Pane × Aggregated) (es : List (Pane × Aggregated)) → AfterEntry last (e ∷ es) → is_pane_after (option_map (λ x. x.pane) last) e.0 ≡ true
after_pane None e es h = refl
after_pane (Some x) e es h = later _ _ _ _ (t_true (is_lt (pane_cmp x.pane e.0)) (t_first (is_lt (pane_cmp x.pane e.0)) (below_all pane_cmp x.pane es) h))

entries_link : (kinds : List Kind) (es : List (Pane × Aggregated)) (last : Option EntryData) → AfterEntry last es → T (is_sorted pane_cmp es) → AllByRecursion (IsEntryOk kinds) (map saved_entry es) → Links (entry_after kinds) last (map saved_entry es)
unfolding entry_field
entries_link kinds [] last a s ok = tt
entries_link kinds (e ∷ es) last a s ok =
    (and_true _ _ (and_true _ _ ok.0.0 (after_pane last e es a)) ok.0.1, entries_link kinds es (Some (saved_entry e)) (t_first (below_all pane_cmp e.0 es) (is_sorted pane_cmp es) s) (t_second (below_all pane_cmp e.0 es) (is_sorted pane_cmp es) s) ok.1)

-- the entries of a map that pass a test, each in itself as it should be
pub group_links : (kinds : List Kind) (m : FinMap pane_cmp Aggregated) (q : Pane → Bool) → All (IsEntryOk kinds) (map saved_entry (where_key pane_cmp q (entries m))) → Links (entry_after kinds) None (map saved_entry (where_key pane_cmp q (entries m)))
group_links kinds m q ok = entries_link kinds (where_key pane_cmp q (entries m)) None tt (is_sorted-where_key pane_cmp q (entries m) (entries_sorted m)) (recursion_from_All (IsEntryOk kinds) (map saved_entry (where_key pane_cmp q (entries m))) ok)

-- key groups
abbrev AfterGroup : Option SavedGroup → ℕ → Type 0
AfterGroup None n = Unit {0}
AfterGroup (Some g) n = g.group < n

after_more : (last : Option SavedGroup) (n : ℕ) → AfterGroup last n → AfterGroup last (n + 1)
after_more None n h = tt
after_more (Some g) n h = omega (arith, h)

after_number : (last : Option SavedGroup) (n : ℕ) → AfterGroup last n → is_number_after (option_map (λ g. g.group) last) n ≡ true
after_number None n h = refl
after_number (Some g) n h = lt-ltb g.group n h

abbrev pub AreGood : List Kind → List EntryData → Type 0
AreGood kinds es = (length es < 2 ^ 64) × Links (entry_after kinds) None es

one_group : (max : ℕ) (kinds : List Kind) (n : ℕ) (last : Option SavedGroup) (e : EntryData) (es : List EntryData) → AfterGroup last n → n < max → max ≤ MOST_GROUPS → AreGood kinds (e ∷ es)
    → (group_after max kinds last).fits (record { group = n; entries = record { width = length kinds; entries = e ∷ es } }) ≡ true
unfolding group_field group_number entries_field u16_field u64_field
one_group max kinds n last e es a lt few good =
    and_true _ _ (eq-eqb (length kinds) (length kinds) refl)
    (and_true _ _ (and_true _ _ (and_true _ _ (lt-ltb n 65536 (omega (arith, few, lt))) (lt-ltb n max lt)) (after_number last n a))
    (counted_fits _ (entry_after kinds) (e ∷ es) (and_true _ _ (lt-ltb (suc (length es)) (2 ^ 64) good.0) (lt-ltb 0 (suc (length es)) (omega arith))) good.1))

groups_link : (max : ℕ) (kinds : List Kind) (f : ℕ → List EntryData) (n k : ℕ) (last : Option SavedGroup) → AfterGroup last n → n + k ≤ max → max ≤ MOST_GROUPS → ((g : ℕ) → g < max → AreGood kinds (f g))
    → Links (group_after max kinds) last (flat_map (λ g. saved_group (length kinds) g (f g)) (range_with_len n k))
groups_link max kinds f n zero last a le few good = tt
groups_link max kinds f n (suc k) last a le few good = by_case (f n) (good n (omega (arith, le))) (λ l b. groups_link max kinds f (n + 1) k l b (omega (arith, le)) few good)
  where
    by_case : (es : List EntryData) → AreGood kinds es → ((l : Option SavedGroup) → AfterGroup l (n + 1) → Links (group_after max kinds) l (flat_map (λ g. saved_group (length kinds) g (f g)) (range_with_len (n + 1) k)))
        → Links (group_after max kinds) last (saved_group (length kinds) n es ++ flat_map (λ g. saved_group (length kinds) g (f g)) (range_with_len (n + 1) k))
    by_case [] good rest = rest last (after_more last n a)
    by_case (e ∷ es) good rest = (one_group max kinds n last e es a (omega (arith, le)) few good, rest (Some (record { group = n; entries = record { width = length kinds; entries = e ∷ es } })) (omega arith))

one_at_most : (w n : ℕ) (es : List EntryData) → length (saved_group w n es) ≤ 1
one_at_most w n [] = omega arith
one_at_most w n (e ∷ es) = omega arith

few_groups : (w : ℕ) (f : ℕ → List EntryData) (n k : ℕ) → length (flat_map (λ g. saved_group w g (f g)) (range_with_len n k)) ≤ k
few_groups w f n zero = omega arith
few_groups w f n (suc k) = omega (arith, length-append (saved_group w n (f n)) (flat_map (λ g. saved_group w g (f g)) (range_with_len (n + 1) k)), one_at_most w n (f n), few_groups w f (n + 1) k)

pub groups_fit : (max : ℕ) (kinds : List Kind) (f : ℕ → List EntryData) → max ≤ MOST_GROUPS → ((g : ℕ) → g < max → AreGood kinds (f g)) → (groups_field max kinds).fits (flat_map (λ g. saved_group (length kinds) g (f g)) (range_with_len 0 max)) ≡ true
unfolding groups_field u16_field
groups_fit max kinds f few good =
    let gs = flat_map (λ g. saved_group (length kinds) g (f g)) (range_with_len 0 max) in
    counted_fits u16_field (group_after max kinds) gs (lt-ltb (length gs) 65536 (omega (arith, few, few_groups (length kinds) f 0 max))) (groups_link max kinds f 0 max None tt (omega arith) few good)
