-- What is gathered is a savepoint.
use Rattle.std.proofs.Common.{◌≡◌, ℕ, ◌<◌, ◌≤◌, ◌^◌, true, List, [], ◌∷◌, ◌++◌, length, map, get_or, refl, sym, subst, ◌∙◌, arith}
use Rattle.std.specs.Prelude.{slice_index}
use Rattle.std.specs.List.{All, filter, flat_map, range_with_len}
use Rattle.std.specs.List.Sorted.{IsStrictlySortedBy}
use Rattle.std.specs.Ordering.{nat_cmp}
use Rattle.std.specs.Cmp.Lexicographic.{slice_cmp}
use Rattle.std.specs.FinMap.{FinMap}
use Rattle.std.proofs.lemmas.Bool.{lt-ltb, le-leb, eq-eqb}
use Rattle.std.proofs.lemmas.List.{length-map}
use Rattle.std.proofs.lemmas.List.Elements.{All-filter, All-map}
use Rattle.std.proofs.lemmas.List.FromFn.{fill_by_all, length-map-range_with_len}
use Rattle.byte_fields.specs.Format.{before}
use Rattle.byte_fields.specs.Lists.{sized}
use Rattle.byte_fields.specs.Fields.{u16_field, u64_field, i64_field}
use Rattle.byte_fields.proofs.Exact.{and_true, is_i64_from}
use Rattle.key_groups.specs.declared.limits.TheConstants.{MOST_GROUPS}
use Rattle.plan_model.specs.declared.limits.TheConstants.{MOST_RECORDS}
use Rattle.plan_model.specs.Aggregates.{Aggregated}
use Rattle.plan_model.specs.PlanData.{PlanData, IsPlan}
use Rattle.plan_model.specs.Rows.{pane_cmp}
use Rattle.plan_model.specs.Uids.{is_uid}
use Rattle.plan_model.proofs.Facts.{uid_fits}
use Rattle.plan_record.specs.Laws.{AscendingIsInOrder}
use Rattle.plan_record.specs.PlanRecord.{plan_record}
use Rattle.layout_rules.specs.Layouts.{partition_counts}
use Rattle.layout_rules.specs.declared.stage.Stage.{Stage}
use Rattle.aggregates.specs.declared.kind.Kind.{Kind}
use Rattle.aggregates.specs.Kinds.{kind_of}
use Rattle.window_state.specs.declared.parts.Part.{Part}
use Rattle.savepoint_codec.specs.Fields.{number_field, max_field, pane_field, count_field, numbers_field, groups_field}
use Rattle.savepoint_codec.specs.Layout.{IsSavepoint, unindexed_format, fields, front_field, record_field}
use Rattle.savepoint_codec.specs.declared.savepoint.SavedPartition.{SavedPartition}
use Rattle.redistribute.specs.declared.task_start.TaskStart.{TaskStart}
use Rattle.gather.specs.Saved.{is_in_group, entries_in_group, saved_group, source_uids, savepoint_of}
use Rattle.gather.specs.Parts.{panes_in, panes_in_group, windows_in, source_in, sources_in, starts_of, partition_in, AreParts}
use Rattle.packed_parts.specs.Packing.{entry_of}
use Rattle.gather.specs.Buckets.{IsTyped}
use Rattle.gather.specs.Sources.{AreTyped}
use Rattle.gather.proofs.Filled.{All-first, All-second}
use Rattle.plan_record.proofs.Facts.{length-ascending}
use Rattle.gather.proofs.Owned.{all_kinds, all_counted}
use Rattle.gather.proofs.RecordLength.{record_short}
use Rattle.gather.proofs.Spelled.{IsEntryOk, counted_entry, group_links, groups_fit, kinds_fit, sources_fit, source_uids_are, all_named}
use Rattle.gather.proofs.Windows.{in_group}

-- each source has as many partitions as the plan says
lengths : (p : PlanData) (stages : List Stage) (parts : List TaskStart) (xs : List ℕ) → map (λ ps. length ps) (map (source_in p stages parts) xs) ≡ map (slice_index (partition_counts p)) xs
lengths p stages parts [] = λ i. []
lengths p stages parts (x ∷ xs) = λ i. length-map-range_with_len (partition_in (starts_of stages parts x)) 0 (slice_index (partition_counts p) x) i ∷ lengths p stages parts xs i

shaped : (p : PlanData) (stages : List Stage) (parts : List TaskStart) → map (λ ps. length ps) (sources_in p stages parts) ≡ partition_counts p
shaped p stages parts =
    lengths p stages parts (range_with_len 0 (length p.sources))
    ∙ sym (fill_by_all (slice_index (partition_counts p)) (partition_counts p) (length p.sources) 0 (length-map p.sources (λ s. s.partitions)) (λ k l i. get_or (partition_counts p) k 0))

entry_ok : (kinds : List Kind) (part : Part) → IsTyped part → part.acc.kinds ≡ kinds → part.acc.total.count ≤ MOST_RECORDS → IsEntryOk kinds (entry_of part)
unfolding pane_field i64_field
entry_ok kinds part typed e few = (
  and_true _ _ (is_i64_from part.pane.start typed.start) (is_i64_from part.pane.key typed.key),
  subst (λ ks. (before count_field (numbers_field ks)).fits (part.acc.total.count, part.acc.total.numbers) ≡ true) e
      (counted_entry part.acc.kinds part.acc.total.count part.acc.total.numbers typed.acc.counted few typed.acc.numbers),
)

-- of the number, the record and the number of key groups
number_fits : (n : ℕ) → 1 ≤ n → n < 2 ^ 64 → number_field.fits n ≡ true
unfolding number_field u64_field
number_fits n some few = and_true _ _ (lt-ltb n (2 ^ 64) few) (lt-ltb 0 n some)

record_fits : (bytes : List ℕ) → length bytes < 65536 → record_field.fits bytes ≡ true
unfolding record_field sized u16_field
record_fits bytes short = and_true _ _ (lt-ltb (length bytes) 65536 short) (eq-eqb (length bytes) (length bytes) refl)

max_fits : (max : ℕ) → 1 ≤ max → max ≤ MOST_GROUPS → max_field.fits max ≡ true
unfolding max_field u16_field
max_fits max some few = and_true _ _ (lt-ltb max 65536 (omega (arith, few))) (and_true _ _ (le-leb 1 max some) (le-leb max MOST_GROUPS few))

-- what is known of partitions and windows that are to be saved
pub record CanBeSaved (p : PlanData) (sources : List (List SavedPartition)) (windows : FinMap pane_cmp Aggregated) (number : ℕ) : Type 0 where
  pub plan : IsPlan p
  pub some : 1 ≤ number
  pub few : number < 2 ^ 64
  pub shape : map (λ ps. length ps) sources ≡ partition_counts p
  pub partitions : All AreTyped sources
  pub long : (g : ℕ) → g < p.max → length (entries_in_group p.max windows g) < 2 ^ 64
  pub entries : (g : ℕ) → All (IsEntryOk (map kind_of p.window.aggregates)) (entries_in_group p.max windows g)

pub can_be_saved : AscendingIsInOrder → (p : PlanData) (sources : List (List SavedPartition)) (windows : FinMap pane_cmp Aggregated) (number : ℕ) → CanBeSaved p sources windows number → IsSavepoint (savepoint_of p sources windows number)
unfolding unindexed_format fields front_field
can_be_saved rising p sources windows number h =
    let ip = h.plan in
    let kinds = map kind_of p.window.aggregates in
    let keys = map (λ s. s.uid) p.sources in
    let filters = map (λ f. f.uid) p.filters in
    let named : List ℕ → Type 0 = λ u. is_uid u ≡ true in
    let order = rising.0 keys in
    let keys_named = All-first named keys filters (All-first named (keys ++ filters) (p.window.uid ∷ []) ip.named) in
    let window_named = All-second named (keys ++ filters) (p.window.uid ∷ []) ip.named 0 [] (omega arith) in
    let us = source_uids_are keys (source_uids p) order (omega (arith, length-map p.sources (λ s. s.uid), ip.sourced)) keys_named in
    let us_few : length (source_uids p) ≤ 8 = omega (arith, length-ascending (slice_cmp nat_cmp) keys, length-map p.sources (λ s. s.uid), ip.sources_few) in
    let wide = length-map p.window.aggregates kind_of in
    let groups = groups_fit p.max kinds (entries_in_group p.max windows) ip.max_small (λ g l. (h.long g l, group_links kinds windows (is_in_group p.max g) (h.entries g))) in
    and_true _ _
    (and_true _ _ (number_fits number h.some h.few)
    (and_true _ _ (record_fits (plan_record p) (record_short p ip us.named))
    (and_true _ _ (max_fits p.max ip.grouped ip.max_small)
    (and_true _ _ (sources_fit p sources (source_uids p) us.some us_few order.rises (all_named p sources (source_uids p) ip h.shape h.partitions us))
    (and_true _ _ (uid_fits p.window.uid window_named)
    (kinds_fit kinds (omega (arith, wide, ip.aggregated)) (omega (arith, wide, ip.aggregates_few))))))))
    (subst (λ w. (groups_field p.max kinds).fits (flat_map (λ g. saved_group w g (entries_in_group p.max windows g)) (range_with_len 0 p.max)) ≡ true) wide groups)

pub record IsGathered (p : PlanData) (stages : List Stage) (parts : List TaskStart) (number : ℕ) : Type 0 where
  pub plan : IsPlan p
  pub are : AreParts p stages parts
  pub some : 1 ≤ number
  pub few : number < 2 ^ 64
  pub partitions : All AreTyped (sources_in p stages parts)
  pub ordered : (g : ℕ) → IsStrictlySortedBy pane_cmp (panes_in_group p.max g (flat_map panes_in parts))
  pub typed : All IsTyped (flat_map panes_in parts)
  pub long : (g : ℕ) → g < p.max → length (entries_in_group p.max (windows_in parts) g) < 2 ^ 64

pub is_savepoint : AscendingIsInOrder → (p : PlanData) (stages : List Stage) (parts : List TaskStart) (number : ℕ) → IsGathered p stages parts number → IsSavepoint (savepoint_of p (sources_in p stages parts) (windows_in parts) number)
is_savepoint rising p stages parts number h =
    let all = flat_map panes_in parts in
    let kinds = map kind_of p.window.aggregates in
    let each : All (λ part. IsEntryOk kinds (entry_of part)) all = λ k d l. entry_ok kinds (get_or all k d) (h.typed k d l) (all_kinds p stages parts h.are k d l) (all_counted p stages parts h.are k d l) in
    can_be_saved rising p (sources_in p stages parts) (windows_in parts) number (record {
      plan = h.plan;
      some = h.some;
      few = h.few;
      shape = shaped p stages parts;
      partitions = h.partitions;
      long = h.long;
      entries = λ g.
          subst (All (IsEntryOk kinds)) (sym (in_group p.max g all (h.ordered g)))
          (All-map (IsEntryOk kinds) entry_of (filter (λ part. is_in_group p.max g part.pane) all) (All-filter (λ part. is_in_group p.max g part.pane) (λ part. IsEntryOk kinds (entry_of part)) all each));
    })
