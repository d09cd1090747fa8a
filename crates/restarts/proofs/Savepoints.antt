-- A savepoint at a cut, with the snapshot of the cut in its windows, has a spelling.
use Rattle.std.proofs.Common.{◌≡◌, ℕ, ◌*◌, ◌^◌, ◌<◌, ◌≤◌, ℤ, Bool, true, false, cond, ◌||◌, List, [], ◌∷◌, length, map, take, get_or, Some, refl, sym, ap, ◌∙◌, arith}
use Rattle.std.specs.Int.{int_max}
use Rattle.std.specs.List.{All, filter, fold, list_any}
use Rattle.std.specs.FinMap.{FinMap, entries, entries_sorted, get}
use Rattle.std.proofs.lemmas.Bool.{and_parts}
use Rattle.std.proofs.lemmas.Bool.Decides.{Decides-int_eq}
use Rattle.std.proofs.lemmas.Int.{ints}
use Rattle.std.proofs.lemmas.List.{length-map}
use Rattle.std.proofs.lemmas.List.Elements.{All-cons, All-filter, All-head, All-map, All-nil, All-tail, All-take}
use Rattle.std.proofs.lemmas.List.Sums.{count_by-le-length, length-filter}
use Rattle.byte_fields.specs.Fields.{is_i64, i64_field}
use Rattle.byte_fields.proofs.Exact.{and_true, fits_long}
use Rattle.plain_data.specs.Record.{Record, at}
use Rattle.plain_data.specs.Times.{lowest, highest}
use Rattle.plan_record.specs.Laws.{AscendingIsInOrder}
use Rattle.plan_model.specs.declared.spec.Aggregate.{Aggregate}
use Rattle.plan_model.specs.declared.spec.Pane.{Pane}
use Rattle.plan_model.specs.Aggregates.{Aggregated, aggregate_of}
use Rattle.plan_model.specs.PlanData.{PlanData}
use Rattle.plan_model.specs.Rows.{pane_cmp, records_of}
use Rattle.plan_model.specs.Windows.{is_at, passes}
use Rattle.aggregates.specs.Kinds.{kind_of}
use Rattle.stream_model.specs.declared.entry.Marked.{Marked}
use Rattle.stream_model.specs.InputData.{InputData, IsEntry, IsMark}
use Rattle.stream_model.specs.Watermarks.{partition_watermark, records_before, watermark_of_entry}
use Rattle.stream_model.specs.PlanRows.{passing}
use Rattle.savepoint_codec.specs.Fields.{pane_field}
use Rattle.savepoint_codec.specs.Layout.{IsSavepoint}
use Rattle.window_state.specs.Windows.{IsStart}
use Rattle.redistribute.specs.Snapshots.{saved_source, saved_sources}
use Rattle.restore.proofs.Facts.{groups_sound, starts_within}
use Rattle.gather.specs.Saved.{entries_in_group, is_in_group, saved_entry}
use Rattle.gather.specs.Sources.{AreTyped, IsTypedPartition}
use Rattle.gather.proofs.Facts.{IsEntryOk, counted_entry, can_be_saved}
use Rattle.restarts.specs.Laws.{HaveFields, IsLeftAt, savepoint_at, SnapshotsAreSavepoints}
use Rattle.restarts.proofs.Few.{few_panes}
use Rattle.restarts.proofs.Grouped.{held}
use Rattle.restarts.proofs.Left.{holder, left}
use Rattle.restarts.proofs.Numbers.{IsWide, at_fits, numbers_of}
use Rattle.restarts.proofs.Passing.{planned}
use Rattle.restarts.proofs.Records.{before, few_before}

-- ---- the partitions

chosen : (b : Bool) (y z : ℤ) → is_i64 y ≡ true → is_i64 z ≡ true → is_i64 (cond b y z) ≡ true
chosen true y z h k = h
chosen false y z h k = k

mark_is_wide : (w : ℤ) → IsMark w → is_i64 w ≡ true
mark_is_wide w h =
    let low = h.0 in
    let high = h.1 in
    grind (arith, ints)

module _ (columns time : ℕ) where
  abbrev E : Marked → Type 0
  E = IsEntry columns time

  entry_fits : (e : Marked) → E e → is_i64 (watermark_of_entry e) ≡ true
  entry_fits e h = mark_is_wide e.mark h.1

  fold_fits : (es : List Marked) (w : ℤ) → is_i64 w ≡ true → All E es → is_i64 (fold (λ w e. int_max w (watermark_of_entry e)) w es) ≡ true
  fold_fits [] w f h = f
  fold_fits (e ∷ es) w f h = fold_fits es (int_max w (watermark_of_entry e)) (chosen _ w (watermark_of_entry e) f (entry_fits e (All-head E e es h))) (All-tail E e es h)

  mark_fits : (es : List Marked) (n : ℕ) → All E es → is_i64 (partition_watermark es n) ≡ true
  mark_fits es n h = chosen _ highest (fold (λ w e. int_max w (watermark_of_entry e)) lowest (take n es)) refl (fold_fits (take n es) lowest refl (All-take E n es h))

  typed_source : (ps : List (List Marked)) (ns : List ℕ) → All (All E) ps → All (λ n. n < 2 ^ 64) ns → AreTyped (saved_source ps ns)
  typed_source [] ns h k = All-nil IsTypedPartition
  typed_source (p ∷ ps) [] h k = All-nil IsTypedPartition
  typed_source (p ∷ ps) (n ∷ ns) h k =
      All-cons IsTypedPartition (record { offset = n; watermark = partition_watermark p n }) (saved_source ps ns)
      (record { offset = All-head (λ m. m < 2 ^ 64) n ns k; watermark = fits_long (partition_watermark p n) (mark_fits p n (All-head (All E) p ps h)) })
      (typed_source ps ns (All-tail (All E) p ps h) (All-tail (λ m. m < 2 ^ 64) n ns k))

  typed : (ss : List (List (List Marked))) (cs : List (List ℕ)) → All (All (All E)) ss → All (All (λ n. n < 2 ^ 64)) cs → All AreTyped (saved_sources ss cs)
  typed [] cs h k = All-nil AreTyped
  typed (s ∷ ss) [] h k = All-nil AreTyped
  typed (s ∷ ss) (c ∷ cs) h k =
      All-cons AreTyped (saved_source s c) (saved_sources ss cs)
      (typed_source s c (All-head (All (All E)) s ss h) (All-head (All (λ n. n < 2 ^ 64)) c cs k))
      (typed ss cs (All-tail (All (All E)) s ss h) (All-tail (All (λ n. n < 2 ^ 64)) c cs k))

-- ---- the entries

start_fits : (s : ℤ) → IsStart s → is_i64 s ≡ true
start_fits s h =
    let l = h.above in
    let u = h.below in
    grind (arith, ints)

held_by : (ks : List Aggregate) (test : Record → Bool) (rs : List Record) (a : Aggregated) → aggregate_of ks (filter test rs) ≡ Some a → list_any test rs ≡ true
held_by ks test [] a h = absurd cc
held_by ks test (r ∷ rs) a h =
    elim (test r) as (λ b. aggregate_of ks (cond b (r ∷ filter test rs) (filter test rs)) ≡ Some a → (b || list_any test rs) ≡ true) [
      | true ↦ λ e. refl
      | false ↦ λ e. held_by ks test rs a e
    ] h

module _ (rising : AscendingIsInOrder) (p : PlanData) (i : InputData) (cut : List (List ℕ)) (windows : FinMap pane_cmp Aggregated) (number : ℕ) (h : IsLeftAt p i cut windows) (fields : HaveFields i cut) where
  abbrev read : List Record
  read = records_before i.sources cut

  abbrev passed : List Record
  passed = passing p read

  wide : All IsWide read
  wide = before IsWide i.sources cut fields.numbers

  pane_ok : (q : Pane) → is_i64 q.start ≡ true → is_i64 q.key ≡ true → pane_field.fits q ≡ true
  unfolding pane_field i64_field
  pane_ok q s k = and_true _ _ s k

  -- what stands in a pane, as an entry
  entry_ok : (q : Pane) (a : Aggregated) → get windows q ≡ Some a → IsEntryOk (map kind_of p.window.aggregates) (saved_entry (q, a))
  entry_ok q a e =
      let x = left p i cut q a h.input h.belongs (sym (h.windows q) ∙ e) in
      let one = holder IsWide p q read a wide x.made in
      let key = (Decides-int_eq (at p.window.key one.0) q.key).0 (and_parts _ _ one.1.0).0 in
      let numbers = numbers_of p.window.aggregates (records_of p.window q passed) a x.made (All-filter (is_at p.window q) IsWide passed (All-filter (passes p.filters) IsWide read wide)) in (
        pane_ok q (start_fits q.start (starts_within p.window q.start h.plan.window x.reached)) (ap is_i64 (sym key) ∙ at_fits p.window.key one.0 one.1.1),
        counted_entry (map kind_of p.window.aggregates) a.count a.numbers numbers.0 x.few numbers.1,
      )

  entries_ok : (g : ℕ) → All (IsEntryOk (map kind_of p.window.aggregates)) (entries_in_group p.max windows g)
  entries_ok g =
      let of_group : Pane × Aggregated → Bool = λ e. is_in_group p.max g e.0 in
      All-map (IsEntryOk (map kind_of p.window.aggregates)) saved_entry (filter of_group (entries windows)) (λ k d l.
      let e = get_or (filter of_group (entries windows)) k d in
      entry_ok e.0 e.1 (All-filter of_group (λ x. get windows x.0 ≡ Some x.1) (entries windows) (held windows) k d l))

  -- so few that they can be counted
  few : length (entries windows) ≤ 256 * length passed
  few =
      few_panes p.window passed (entries windows) h.plan.window (entries_sorted windows)
      (λ k d l. let e = get_or (entries windows) k d in (left p i cut e.0 e.1 h.input h.belongs (sym (h.windows e.0) ∙ held windows k d l)).start)
      (λ k d l.
      let e = get_or (entries windows) k d in
      held_by p.window.aggregates (is_at p.window e.0) passed e.1 (left p i cut e.0 e.1 h.input h.belongs (sym (h.windows e.0) ∙ held windows k d l)).made)

  long : (g : ℕ) → length (entries_in_group p.max windows g) < 2 ^ 64
  long g =
      let of_group : Pane × Aggregated → Bool = λ e. is_in_group p.max g e.0 in
      let fits = h.input.few in
      omega (
        arith,
        fits,
        few,
        few_before i.sources cut,
        length-filter (passes p.filters) read,
        count_by-le-length (passes p.filters) read,
        length-map (filter of_group (entries windows)) saved_entry,
        length-filter of_group (entries windows),
        count_by-le-length of_group (entries windows),
      )

  pub is_savepoint : 1 ≤ number → number < 2 ^ 64 → IsSavepoint (savepoint_at p i cut windows number)
  is_savepoint some small = can_be_saved rising p (saved_sources i.sources cut) windows number (record {
    plan = h.plan;
    some = some;
    few = small;
    shape = planned rising p i cut windows number h;
    partitions = typed i.columns i.time i.sources cut h.input.entries fields.counts;
    long = λ g l. long g;
    entries = entries_ok;
  })

pub snapshots_are_savepoints : AscendingIsInOrder → SnapshotsAreSavepoints
snapshots_are_savepoints rising p i cut windows number h fields some small =
    let savepoint = is_savepoint rising p i cut windows number h fields some small in
    (savepoint, groups_sound (savepoint_at p i cut windows number) savepoint)
