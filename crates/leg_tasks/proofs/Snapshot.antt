-- Tasks that have come to a cut leave its savepoint.
use Rattle.std.proofs.Common.{◌≡◌, ℕ, zero, suc, ◌+◌, ◌<◌, ◌≤◌, pos, List, [], ◌∷◌, ◌++◌, Bool, true, cond, ◌&&◌, ◌||◌, length, map, get_or, None, refl, sym, ap, subst, ◌∙◌, inl, inr, arith, if◌then◌else◌}
use Rattle.std.specs.Prelude.{slice_index, slice_index_or, ◌==◌}
use Rattle.std.specs.FinMap.{entries, get, get-entries, get-from_entries, find as find_pane}
use Rattle.std.specs.List.{All, flat_map, list_any, range_with_len}
use Rattle.std.proofs.lemmas.Bool.{cases_eq, cases_Bool, cases_lt, eq-eqb, ne_eqb, eqb-true}
use Rattle.std.proofs.Math.ListN.{get_or-map}
use Rattle.std.proofs.lemmas.List.{length-map}
use Rattle.std.proofs.lemmas.List.Elements.{All-nil}
use Rattle.std.proofs.lemmas.List.FromFn.{length-map-range_with_len, get_or-map-range_with_len, fill_by_all}
use Rattle.plan_model.specs.declared.spec.Pane.{Pane}
use Rattle.plan_model.specs.Aggregates.{Aggregated}
use Rattle.plan_model.specs.PlanData.{PlanData, IsPlan}
use Rattle.plan_model.specs.Rows.{pane_cmp}
use Rattle.plan_model.proofs.Facts.{pane_cmp_total}
use Rattle.stream_model.specs.declared.entry.Marked.{Marked}
use Rattle.stream_model.specs.InputData.{InputData, BelongsTo, partition_at}
use Rattle.stream_model.specs.Watermarks.{partition_watermark, IsCut}
use Rattle.stream_model.specs.PlanRows.{snapshot}
use Rattle.dataflow_model.specs.declared.role.Role.{Role}
use Rattle.dataflow_model.specs.declared.role.Role.TheVariants as role
use Rattle.dataflow_model.specs.Role.{is_source}
use Rattle.dataflow_model.specs.AbstractLayout.{AbstractLayout, IsLayout, Deals, reader_of, place_in_reader}
use Rattle.dataflow_model.specs.Leg.{Leg, leg_of, count_at}
use Rattle.dataflow_model.specs.Snapshots.{AtOwners}
use Rattle.dataflow_model.specs.State.{Windows, State}
use Rattle.layout_rules.specs.Layouts.{partition_counts, through_all, abstract_layout}
use Rattle.layout_rules.specs.Rules.{IsCompiled, stages_of, window_of}
use Rattle.layout_rules.specs.Scale.{ScaleData, IsScale}
use Rattle.layout_rules.specs.Stages.{source_of, task_stage, task_role, task_count, partitions_of}
use Rattle.layout_rules.specs.declared.stage.Stage.{Stage}
use Rattle.layout_rules.proofs.Facts.{compiled_ever, sink_is_last}
use Rattle.plan_compiler.specs.LayoutData.{LayoutData}
use Rattle.aggregates.specs.declared.kind.Kind.{Kind}
use Rattle.aggregates.specs.Kinds.{kind_of}
use Rattle.window_state.specs.declared.parts.Part.{Part}
use Rattle.window_state.specs.Parts.{entries_of as entries_of_parts}
use Rattle.input_flow.specs.InputEntries.{entries_of, input_of, counts_at}
use Rattle.input_flow.proofs.Facts.{same_sources, same_partitions, back}
use Rattle.dataflow_laws.specs.Legs.{AreAt, HaveMarks}
use Rattle.dataflow_laws.specs.Inputs.{HaveCut}
use Rattle.dataflow_laws.specs.Compiled.{layout_to}
use Rattle.savepoint_codec.specs.declared.savepoint.SavedPartition.{SavedPartition}
use Rattle.redistribute.specs.declared.task_start.TaskStart.{TaskStart}
use Rattle.redistribute.specs.declared.task_start.TaskStart.TheVariants.{Chain}
use Rattle.redistribute.specs.Snapshots.{saved_partition, saved_sources}
use Rattle.redistribute.specs.Parts.{at_first, partitions_in, start_of_role, with_windows}
use Rattle.redistribute.proofs.Facts.{known, early, places, saved_there, shaped, found_in, one_from}
use Rattle.gather.proofs.Facts.{or_true, any_from, all_from, found_good}
use Rattle.gather.specs.Saved.{savepoint_of}
use Rattle.gather.specs.Parts.{panes_in, part_at as part_of_task, is_reader, starts_at, starts_of, saved_start, partition_in, source_in, sources_in, windows_in}
use Rattle.leg_tasks.specs.Leaving.{start_left, starts_left, part_at, parts_left, part_left, all_left, savepoint_left}
use Rattle.leg_tasks.specs.Saved.{IsSavedAt, TasksSaveTheCut}

-- ---- what is found in some parts

entries_left : (kinds : List Kind) (es : List (Pane × Aggregated)) → entries_of_parts (map (part_at kinds) es) ≡ es
entries_left kinds [] = refl
entries_left kinds (e ∷ es) = ap (λ (xs : List (Pane × Aggregated)). e ∷ xs) (entries_left kinds es)

found_left : (kinds : List Kind) (windows : Windows) (q : Pane) → find_pane pane_cmp q (entries_of_parts (parts_left kinds windows)) ≡ get windows q
found_left kinds windows q = ap (find_pane pane_cmp q) (entries_left kinds (entries windows)) ∙ sym (get-entries windows q)

panes_of_all : (f : ℕ → TaskStart) (ts : List ℕ) → flat_map panes_in (map f ts) ≡ flat_map (λ t. panes_in (f t)) ts
panes_of_all f [] = refl
panes_of_all f (t ∷ ts) = ap (λ (xs : List Part). panes_in (f t) ++ xs) (panes_of_all f ts)

-- ---- what is found of a partition

any_at : {X : Type 0} (test : X → Bool) (f : ℕ → X) (a n k : ℕ) → a ≤ k → k < a + n → test (f k) ≡ true → list_any test (map f (range_with_len a n)) ≡ true
any_at test f a zero k l m h = absurd (omega (arith, l, m))
any_at test f a (suc n) k l m h =
    elim (cases_eq k a) [
      | inl e ↦ ap (λ b. b || list_any test (map f (range_with_len (a + 1) n))) (ap (λ y. test (f y)) (sym e) ∙ h)
      | inr ne ↦ or_true (test (f a)) _ (any_at test f (a + 1) n k (omega (arith, l, ne)) (omega (arith, m)) h)
    ]

-- a partition at a place of a source, as a cut leaves it
abbrev saved_there_of : List (List (List Marked)) → List (List ℕ) → ℕ → ℕ → SavedPartition
saved_there_of sources cut x k = saved_partition (partition_at sources x k) (count_at cut x k)

all_places : {X : Type 0} (P : X → Type 0) (f : ℕ → X) (n : ℕ) → ((k : ℕ) → k < n → P (f k)) → All P (map f (range_with_len 0 n))
all_places P f n h k d l =
    let m : k < n = (let z = length-map-range_with_len f 0 n in omega (arith, l, z)) in
    subst P (sym (get_or-map-range_with_len f 0 n k k d m (omega arith))) (h k m)

-- ---- a layout's tasks at a cut

module _ (p : PlanData) (c : ScaleData) (i : InputData) (leg : Leg) (ip : IsPlan p) (sc : IsScale p c) (belongs : BelongsTo p i) (cut : List (List ℕ)) (is_cut : IsCut i.sources cut) (states : ℕ → State) where
  abbrev ok : IsCompiled p c (stages_of p c)
  ok = compiled_ever p c

  abbrev S : List Stage
  S = stages_of p c

  abbrev L : AbstractLayout
  L = abstract_layout p (entries_of i) leg S (window_of S)

  abbrev mine : ℕ → List ℕ
  mine t = partitions_of (partition_counts p) S t

  abbrev kinds : List Kind
  kinds = map kind_of p.window.aggregates

  abbrev left : ℕ → TaskStart
  left t = part_left (partition_counts p) kinds S t (states t)

  abbrev parts : List TaskStart
  parts = all_left p S states

  laid : IsLayout L × Deals (input_of p i) leg L
  laid = known p c (entries_of i) leg ip sc ok

  last : task_count S ≡ suc L.sink
  last = sink_is_last p c S ip sc ok

  part_is : (t : ℕ) → t < task_count S → part_of_task parts t ≡ left t
  part_is t l = get_or-map-range_with_len left 0 (task_count S) t t Chain l (omega arith)

  module _ (at : AreAt (input_of p i) L states (counts_at p cut)) (marks : HaveMarks (input_of p i) L states (counts_at p cut)) where
    abbrev want : ℕ → ℕ → SavedPartition
    want x k = saved_there_of i.sources cut x k

    -- a task has read its partitions as far as the cut
    read_so : (t k : ℕ) → task_role S t ≡ role.Source → k < length (mine t) → saved_start (start_left (mine t) (states t) k) ≡ want (source_of (task_stage S t).operators) (slice_index (mine t) k)
    read_so t k h l =
        let few : k < (L.task t).inputs = (let z = places p c (entries_of i) leg ip sc ok t h in omega (arith, l, z)) in
        let b = early p c (entries_of i) leg ip sc ok t h in
        let y = laid.1.there t k b h few in
        let offset : slice_index (states t).offsets k ≡ count_at cut (L.task t).source ((L.task t).partition k) = at t k b h few ∙ (λ j. count_at cut (y.source j) (y.number j)) in
        let mark : slice_index_or (states t).inputs.marks k (pos 0) ≡ partition_watermark (partition_at i.sources (L.task t).source ((L.task t).partition k)) (count_at cut (L.task t).source ((L.task t).partition k)) =
        marks t k (pos 0) b h few ∙ (λ j. partition_watermark (partition_at i.sources (y.source j) (y.number j)) (count_at cut (y.source j) (y.number j))) in
        λ j. record { offset = offset j; watermark = mark j }

    -- what a reader leaves of its source
    by_role : (x t : ℕ) (r : Role) → task_role S t ≡ r → All (λ b. saved_start b ≡ want x b.partition) (cond (is_source r && (source_of (task_stage S t).operators == x)) (partitions_in (with_windows (parts_left kinds (states t).windows) (start_of_role r (starts_left (mine t) (states t))))) [])
    by_role x t role.Source h =
        elim (cases_Bool (source_of (task_stage S t).operators == x)) [
          | inr e ↦ rw e (All-nil _)
          | inl e ↦ rw e (all_places (λ b. saved_start b ≡ want x b.partition) (start_left (mine t) (states t)) (length (mine t)) (λ k l. read_so t k h l ∙ ap (λ y. want y (slice_index (mine t) k)) (eqb-true _ x e)))
        ]
    by_role x t role.Chain h = All-nil _
    by_role x t role.Window h = All-nil _
    by_role x t role.Sink h = All-nil _

    readers : (x : ℕ) → All (λ b. saved_start b ≡ want x b.partition) (starts_of S parts x)
    readers x =
        all_from (λ b. saved_start b ≡ want x b.partition) (starts_at S parts x) 0 (task_count S) (λ t z l.
        subst (λ y. All (λ b. saved_start b ≡ want x b.partition) (if is_reader S x t then partitions_in y else [])) (sym (part_is t (omega (arith, l)))) (by_role x t (task_role S t) refl))

    -- some task reads it
    read_by : (x k : ℕ) → x < length i.sources → k < length (get_or i.sources x []) → list_any (λ b. b.partition == k) (starts_of S parts x) ≡ true
    read_by x k l m =
        let b = back p i belongs x k l m in
        let q = through_all p x k in
        let d = laid.1.dealt q b.2 in
        let t = reader_of (input_of p i) L q in
        let place = place_in_reader (input_of p i) L q in
        let role_is : task_role S t ≡ role.Source = d.reads.role in
        let source_is : source_of (task_stage S t).operators ≡ x = d.reads.source ∙ b.0 in
        let here : t < task_count S = (let e = d.reads.early in let w = laid.0.some_windows in omega (arith, e, w, last)) in
        let few : place < length (mine t) = (let z = places p c (entries_of i) leg ip sc ok t role_is in omega (arith, d.place, z)) in
        let number_is : slice_index (mine t) place ≡ k = d.partition ∙ b.1 in
        let reads : is_reader S x t ≡ true = ap (λ r. is_source r && (source_of (task_stage S t).operators == x)) role_is ∙ eq-eqb _ x source_is in
        let starts : starts_at S parts x t ≡ starts_left (mine t) (states t) =
        ap (λ b. if b then partitions_in (part_of_task parts t) else []) reads ∙ ap partitions_in (part_is t here) ∙ ap (λ r. partitions_in (with_windows (parts_left kinds (states t).windows) (start_of_role r (starts_left (mine t) (states t))))) role_is in
        any_from (λ b. b.partition == k) (starts_at S parts x) 0 (task_count S) t (omega arith) (omega (arith, here))
        (ap (list_any (λ b. b.partition == k)) starts ∙ any_at (λ b. b.partition == k) (start_left (mine t) (states t)) 0 (length (mine t)) place (omega arith) (omega (arith, few)) (eq-eqb (slice_index (mine t) place) k number_is))

    source_is : (x : ℕ) → x < length i.sources → source_in p S parts x ≡ get_or (saved_sources i.sources cut) x []
    source_is x l =
        let saved = get_or (saved_sources i.sources cut) x [] in
        let long : length saved ≡ length (get_or i.sources x []) = sym (get_or-map (λ ps. length ps) (saved_sources i.sources cut) x []) ∙ ap (λ ns. get_or ns x 0) (shaped i.sources cut is_cut) ∙ get_or-map (λ es. length es) i.sources x [] in
        let many : slice_index (partition_counts p) x ≡ length (get_or i.sources x []) = same_partitions p i belongs x in
        sym (fill_by_all (partition_in (starts_of S parts x)) saved (slice_index (partition_counts p) x) at_first (omega (arith, long, many)) (λ k m.
        saved_there i.sources cut x k is_cut l (omega (arith, m, many))
        ∙ sym (found_good (want x) k (starts_of S parts x) (readers x) (read_by x k l (omega (arith, m, many))))))

    pub sources_are : sources_in p S parts ≡ saved_sources i.sources cut
    sources_are =
        let saved = saved_sources i.sources cut in
        let long : length saved ≡ length i.sources = sym (length-map saved (λ ps. length ps)) ∙ ap length (shaped i.sources cut is_cut) ∙ length-map i.sources (λ es. length es) in
        let many = same_sources p i belongs in
        sym (fill_by_all (source_in p S parts) saved (length p.sources) [] (omega (arith, long, many)) (λ x m. sym (source_is x (omega (arith, m, many)))))

  -- a task without windows has none
  none_at : (q : Pane) (t : ℕ) (r : Role) → (r ≡ role.Window → ⊥) → (L.owner q.key ≡ t → ⊥)
      → found_in q (panes_in (with_windows (parts_left kinds (states t).windows) (start_of_role r (starts_left (mine t) (states t))))) ≡ (if L.owner q.key == t then snapshot p i.sources cut q else None)
  none_at q t role.Source nw ne = sym (let d = ne_eqb (L.owner q.key) t ne in ap (λ b. if b then snapshot p i.sources cut q else None) d)
  none_at q t role.Chain nw ne = sym (let d = ne_eqb (L.owner q.key) t ne in ap (λ b. if b then snapshot p i.sources cut q else None) d)
  none_at q t role.Window nw ne = absurd (nw refl)
  none_at q t role.Sink nw ne = sym (let d = ne_eqb (L.owner q.key) t ne in ap (λ b. if b then snapshot p i.sources cut q else None) d)

  not_window : (t : ℕ) (r : Role) → task_role S t ≡ r → t < L.before → r ≡ role.Window → ⊥
  not_window t r h b w =
      let source : task_role S t ≡ role.Source → ⊥ = λ y. let z : role.Source ≡ role.Window = sym y ∙ h ∙ w in cc in
      let z : role.Chain ≡ role.Window = sym (laid.0.roles_before t b source) ∙ h ∙ w in
      cc

  not_sink : (t : ℕ) (r : Role) → task_role S t ≡ r → t ≡ L.sink → r ≡ role.Window → ⊥
  not_sink t r h e w = let z : role.Sink ≡ role.Window = sym laid.0.role_sink ∙ ap (λ u. task_role S u) (sym e) ∙ h ∙ w in cc

  -- what stands in a pane is with the owner of its key
  by_task : AtOwners L (λ u. (states u).windows) (snapshot p i.sources cut) → (q : Pane) (t : ℕ) → t < task_count S → (r : Role) → task_role S t ≡ r
      → found_in q (panes_in (with_windows (parts_left kinds (states t).windows) (start_of_role r (starts_left (mine t) (states t))))) ≡ (if L.owner q.key == t then snapshot p i.sources cut q else None)
  by_task owned q t l r h = elim (cases_lt t L.before) [
    | inl y ↦ none_at q t r (not_window t r h y) (λ e. let o = laid.0.owner_window q.key in absurd (omega (arith, e, o, y)))
    | inr y ↦ elim (cases_lt t L.sink) [
      | inl z ↦ ap (λ x. found_in q (panes_in (with_windows (parts_left kinds (states t).windows) (start_of_role x (starts_left (mine t) (states t)))))) (sym h ∙ laid.0.roles_window t y z) ∙ found_left kinds (states t).windows q ∙ owned t y z q
      | inr z ↦ none_at q t r (not_sink t r h (let e = last in omega (arith, l, z, e))) (λ e. let o = laid.0.owner_window q.key in absurd (omega (arith, e, o, z)))
    ]
  ]

  pub windows_are : AtOwners L (λ u. (states u).windows) (snapshot p i.sources cut) → (q : Pane) → get (windows_in parts) q ≡ snapshot p i.sources cut q
  windows_are owned q =
      let n = task_count S in
      let o = laid.0.owner_window q.key in
      get-from_entries pane_cmp_total (entries_of_parts (flat_map panes_in parts)) q
      ∙ ap (found_in q) (panes_of_all left (range_with_len 0 n))
      ∙ one_from q (λ t. panes_in (left t)) 0 n (L.owner q.key) (snapshot p i.sources cut q) (omega arith) (let z = last in omega (arith, z, o)) (λ t z l. by_task owned q t (omega (arith, l)) (task_role S t) refl)

pub tasks_save_the_cut : TasksSaveTheCut
tasks_save_the_cut p l i n saves until cut states number ip lo belongs is_cut =
    let R : LayoutData → Type 0 = λ m. let a = layout_to p i n saves until m.stages in HaveCut p i a states cut → HaveMarks (input_of p i) a states (counts_at p cut) → IsSavedAt p i cut number (savepoint_left p m.stages states number) in
    let leg : Leg = leg_of n saves until (entries_of i).size in
    subst R (sym lo.is) (λ has marks. record {
      windows = windows_in (all_left p (stages_of p lo.scale) states);
      snapshot = windows_are p lo.scale i leg ip lo.fits belongs cut is_cut states has.windows;
      is = ap (λ ss. savepoint_of p ss (windows_in (all_left p (stages_of p lo.scale) states)) number) (sources_are p lo.scale i leg ip lo.fits belongs cut is_cut states has.offsets marks);
    })
