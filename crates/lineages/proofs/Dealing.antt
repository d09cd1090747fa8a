-- Parts that a start was dealt out into say what the start says.
use Rattle.std.proofs.Common.{◌≡◌, ℕ, zero, suc, ◌<◌, Bool, true, cond, ◌&&◌, ◌||◌, List, [], ◌∷◌, length, map, get_or, Some, None, refl, sym, ap, subst, ◌∙◌, inl, inr, arith, if◌then◌else◌}
use Rattle.std.specs.Prelude.{slice_get, slice_index, ◌==◌}
use Rattle.std.specs.FinMap.{get, get-from_entries}
use Rattle.std.specs.List.{All, flat_map, list_any, range_with_len}
use Rattle.std.proofs.lemmas.Bool.{cases_Bool, cases_lt, eq-eqb, ne_eqb, eqb-true}
use Rattle.std.proofs.lemmas.List.{length-map}
use Rattle.std.proofs.lemmas.List.Elements.{All-nil, All-map}
use Rattle.std.proofs.lemmas.List.Folds.{flat_map-map}
use Rattle.std.proofs.lemmas.List.FromFn.{get_or-map-range_with_len, fill_by_all}
use Rattle.std.proofs.Math.ListN.{get_or-map}
use Rattle.plan_model.specs.declared.spec.Pane.{Pane}
use Rattle.plan_model.specs.PlanData.{PlanData, IsPlan}
use Rattle.plan_model.proofs.Facts.{pane_cmp_total}
use Rattle.stream_model.specs.InputData.{InputData, BelongsTo}
use Rattle.dataflow_model.specs.declared.role.Role.{Role}
use Rattle.dataflow_model.specs.declared.role.Role.TheVariants as role
use Rattle.dataflow_model.specs.Role.{is_source}
use Rattle.dataflow_model.specs.AbstractLayout.{AbstractLayout, IsLayout}
use Rattle.layout_rules.specs.Layouts.{partition_counts, abstract_layout}
use Rattle.layout_rules.specs.Rules.{stages_of, window_of}
use Rattle.layout_rules.specs.Scale.{ScaleData, IsScale}
use Rattle.layout_rules.specs.Stages.{source_of, task_stage, task_role, task_count, partitions_of, groups_of}
use Rattle.layout_rules.specs.declared.stage.Stage.{Stage}
use Rattle.layout_rules.proofs.Facts.{compiled_ever, sink_is_last}
use Rattle.plan_compiler.specs.LayoutData.{LayoutData, IsLayoutOf, layout_of}
use Rattle.plan_compiler.specs.Tables.{each_task}
use Rattle.window_state.specs.declared.parts.Part.{Part}
use Rattle.window_state.specs.Parts.{entries_of}
use Rattle.savepoint_index.specs.Layout.{Spells}
use Rattle.redistribute.specs.declared.task_start.PartitionStart.{PartitionStart}
use Rattle.redistribute.specs.declared.task_start.TaskStart.{TaskStart}
use Rattle.redistribute.specs.declared.task_start.TaskStart.TheVariants.{Chain}
use Rattle.redistribute.specs.StartData.{StartData, IsStartOf, offsets_of}
use Rattle.redistribute.specs.Begins.{IsStartIn, AreOpenGroups}
use Rattle.redistribute.specs.Parts.{at_first, saved_at, partition_start, start_of_role, partitions_in, parts_within, parts_of, windows_of, with_windows, whole_task_start}
use Rattle.redistribute.specs.Laws.{EachPartitionOnce, HasPartition, StandsAt}
use Rattle.redistribute.proofs.Facts.{known, owns, nothing, no_leg, shaped, found_in, one_from, total_within}
use Rattle.gather.specs.Laws.{SamePanesSameSavepoint}
use Rattle.gather.specs.Parts.{panes_in, part_at, is_reader, starts_at, starts_of, saved_start, partition_in, source_in, sources_in, windows_in}
use Rattle.gather.specs.Saved.{savepoint_of}
use Rattle.gather.proofs.Facts.{or_true, any_from, all_from, found_good}
use Rattle.restarts.specs.Laws.{AcceptedHaveGroups}
use Rattle.plan_record.specs.Laws.{AscendingIsInOrder}
use Rattle.lineages.specs.Dealing.{SayStart, DealtAreGathered, SavepointsAreGatheredAgain}
use Rattle.lineages.proofs.Accepted.{is_of_start}

-- ---- what is found in lists, one after the other

any_at : {X : Type 0} (test : X → Bool) (xs : List X) (k : ℕ) (b : X) → slice_get xs k ≡ Some b → test b ≡ true → list_any test xs ≡ true
any_at test [] k b e h = absurd cc
any_at test (x ∷ xs) zero b e h = let y : x ≡ b = cc in ap (λ c. c || list_any test xs) (ap test y ∙ h)
any_at test (x ∷ xs) (suc k) b e h = or_true (test x) (list_any test xs) (any_at test xs k b e h)

-- ---- what is known by role

-- a part has its partitions whatever stands in its windows, and a source's part alone has any
in_role : (r : Role) (starts : List PartitionStart) (parts : List Part) (k : ℕ) (b : PartitionStart) → slice_get (partitions_in (start_of_role r starts)) k ≡ Some b
    → (is_source r ≡ true) × (slice_get (partitions_in (with_windows parts (start_of_role r starts))) k ≡ Some b)
in_role role.Source starts parts k b e = (refl, e)
in_role role.Chain starts parts k b e = absurd cc
in_role role.Window starts parts k b e = absurd cc
in_role role.Sink starts parts k b e = absurd cc

-- ---- a plan's layout at a scale

module _ (p : PlanData) (c : ScaleData) (s : StartData) (ip : IsPlan p) (sc : IsScale p c) where
  abbrev S : List Stage
  S = stages_of p c

  abbrev L : AbstractLayout
  L = abstract_layout p nothing no_leg S (window_of S)

  abbrev mine : ℕ → List PartitionStart
  mine t = map (partition_start s (source_of (task_stage S t).operators)) (partitions_of (partition_counts p) S t)

  abbrev within : ℕ → List Part
  within t = parts_within (groups_of p.max S t) s

  abbrev dealt : ℕ → TaskStart
  dealt t = with_windows (within t) (start_of_role (task_role S t) (mine t))

  abbrev parts : List TaskStart
  parts = each_task S (whole_task_start p.max (partition_counts p) s S)

  part_is : (t : ℕ) → t < task_count S → part_at parts t ≡ dealt t
  part_is t l = get_or-map-range_with_len dealt 0 (task_count S) t t Chain l (omega arith)

  -- ---- its sources

  module _ (once : EachPartitionOnce) (lo : IsLayoutOf p (layout_of p c)) (is_start : IsStartOf p s) where
    -- a reader has what the start has of its source
    by_role : (x y : ℕ) (r : Role) (ps : List Part) (qs : List ℕ) → All (λ b. saved_start b ≡ saved_at s x b.partition) (cond (is_source r && (y == x)) (partitions_in (with_windows ps (start_of_role r (map (partition_start s y) qs)))) [])
    by_role x y role.Source ps qs =
        elim (cases_Bool (y == x)) [
          | inl e ↦ rw e (All-map (λ b. saved_start b ≡ saved_at s x b.partition) (partition_start s y) qs (λ k d l. ap (λ z. saved_at s z (get_or qs k d)) (eqb-true y x e)))
          | inr e ↦ rw e (All-nil _)
        ]
    by_role x y role.Chain ps qs = All-nil _
    by_role x y role.Window ps qs = All-nil _
    by_role x y role.Sink ps qs = All-nil _

    readers : (x : ℕ) → All (λ b. saved_start b ≡ saved_at s x b.partition) (starts_of S parts x)
    readers x =
        all_from (λ b. saved_start b ≡ saved_at s x b.partition) (starts_at S parts x) 0 (task_count S) (λ t z l.
        subst (λ y. All (λ b. saved_start b ≡ saved_at s x b.partition) (if is_reader S x t then partitions_in y else [])) (sym (part_is t (omega (arith, l))))
        (by_role x (source_of (task_stage S t).operators) (task_role S t) (within t) (partitions_of (partition_counts p) S t)))

    -- some task reads it
    read_by : (x k : ℕ) → HasPartition s x k → list_any (λ b. b.partition == k) (starts_of S parts x) ≡ true
    read_by x k has =
        let o = once p (layout_of p c) s x k ip lo is_start has in
        let t = o.0 in
        let at : StandsAt p s S x k t o.1 = o.2 in
        let r = in_role (task_role S t) (mine t) (within t) o.1 (partition_start s x k) at.is in
        let reads : is_reader S x t ≡ true = ap (λ b. b && (source_of (task_stage S t).operators == x)) r.0 ∙ eq-eqb _ x at.source in
        let starts : starts_at S parts x t ≡ partitions_in (dealt t) = ap (λ b. if b then partitions_in (part_at parts t) else []) reads ∙ ap partitions_in (part_is t at.task) in
        any_from (λ b. b.partition == k) (starts_at S parts x) 0 (task_count S) t (omega arith) (let z = at.task in omega (arith, z))
        (ap (list_any (λ b. b.partition == k)) starts ∙ any_at (λ b. b.partition == k) (partitions_in (dealt t)) o.1 (partition_start s x k) r.1 (eq-eqb k k refl))

    same_sources : length s.sources ≡ length p.sources
    same_sources = sym (length-map s.sources (λ ps. length ps)) ∙ ap length is_start ∙ length-map p.sources (λ z. z.partitions)

    same_partitions : (x : ℕ) → length (get_or s.sources x []) ≡ slice_index (partition_counts p) x
    same_partitions x = sym (get_or-map (λ ps. length ps) s.sources x []) ∙ ap (λ l. slice_index l x) is_start

    source_is : (x : ℕ) → x < length s.sources → get_or s.sources x [] ≡ source_in p S parts x
    source_is x l =
        fill_by_all (partition_in (starts_of S parts x)) (get_or s.sources x []) (slice_index (partition_counts p) x) at_first (same_partitions x) (λ k m.
        sym (found_good (saved_at s x) k (starts_of S parts x) (readers x) (read_by x k (record { source = l; partition = let z = same_partitions x in omega (arith, m, z) }))))

    sources_are : sources_in p S parts ≡ s.sources
    sources_are = let n = same_sources in sym (fill_by_all (source_in p S parts) s.sources (length p.sources) [] n (λ x m. source_is x (omega (arith, m, n))))

  -- ---- its windows

  laid : IsLayout L
  laid = (known p c nothing no_leg ip sc (compiled_ever p c)).0

  last : task_count S ≡ suc L.sink
  last = sink_is_last p c S ip sc (compiled_ever p c)

  module _ (open_groups : AreOpenGroups p s.kinds s.groups) where
    -- a task without windows has none
    none_at : (q : Pane) (t : ℕ) (r : Role) → (r ≡ role.Window → ⊥) → (L.owner q.key ≡ t → ⊥)
        → found_in q (panes_in (with_windows (within t) (start_of_role r (mine t)))) ≡ (if L.owner q.key == t then found_in q (parts_of s) else None)
    none_at q t role.Source nw ne = sym (let d = ne_eqb (L.owner q.key) t ne in ap (λ b. if b then found_in q (parts_of s) else None) d)
    none_at q t role.Chain nw ne = sym (let d = ne_eqb (L.owner q.key) t ne in ap (λ b. if b then found_in q (parts_of s) else None) d)
    none_at q t role.Window nw ne = absurd (nw refl)
    none_at q t role.Sink nw ne = sym (let d = ne_eqb (L.owner q.key) t ne in ap (λ b. if b then found_in q (parts_of s) else None) d)

    not_window : (t : ℕ) → t < L.before → task_role S t ≡ role.Window → ⊥
    not_window t b w =
        let source : task_role S t ≡ role.Source → ⊥ = λ y. let z : role.Source ≡ role.Window = sym y ∙ w in cc in
        let z : role.Chain ≡ role.Window = sym (laid.roles_before t b source) ∙ w in
        cc

    not_sink : (t : ℕ) → t ≡ L.sink → task_role S t ≡ role.Window → ⊥
    not_sink t e w = let z : role.Sink ≡ role.Window = sym laid.role_sink ∙ ap (λ u. task_role S u) (sym e) ∙ w in cc

    -- what stands in a pane is with the owner of its key
    by_task : (q : Pane) (t : ℕ) → t < task_count S → found_in q (panes_in (dealt t)) ≡ (if L.owner q.key == t then found_in q (parts_of s) else None)
    by_task q t l = elim (cases_lt t L.before) [
      | inl y ↦ none_at q t (task_role S t) (not_window t y) (λ e. let o = laid.owner_window q.key in absurd (omega (arith, e, o, y)))
      | inr y ↦ elim (cases_lt t L.sink) [
        | inl z ↦
            ap (λ r. found_in q (panes_in (with_windows (within t) (start_of_role r (mine t))))) (laid.roles_window t y z)
            ∙ total_within p s.kinds q (groups_of p.max S t) s.groups open_groups
            ∙ ap (λ b. if b then found_in q (parts_of s) else None) (owns p c t q.key ip sc y z)
        | inr z ↦ none_at q t (task_role S t) (not_sink t (let e = last in omega (arith, l, z, e))) (λ e. let o = laid.owner_window q.key in absurd (omega (arith, e, o, z)))
      ]
    ]

    windows_are : (q : Pane) → get (windows_in parts) q ≡ get (windows_of s) q
    windows_are q =
        let n = task_count S in
        let o = laid.owner_window q.key in
        get-from_entries pane_cmp_total (entries_of (flat_map panes_in parts)) q
        ∙ ap (found_in q) (flat_map-map panes_in dealt (range_with_len 0 n))
        ∙ one_from q (λ t. panes_in (dealt t)) 0 n (L.owner q.key) (found_in q (parts_of s)) (omega arith) (let z = last in omega (arith, z, o)) (λ t z l. by_task q t (omega (arith, l)))
        ∙ sym (get-from_entries pane_cmp_total (entries_of (parts_of s)) q)

-- ---- a start of an input has the plan's sources

start_of_plan : (p : PlanData) (i : InputData) (s : StartData) → BelongsTo p i → IsStartIn p i s → IsStartOf p s
start_of_plan p i s belongs is = ap (map (λ ps. length ps)) is.partitions ∙ shaped i.sources (offsets_of s) is.cut ∙ belongs.partitions

-- ---- the laws

pub dealt_are_gathered : EachPartitionOnce → SamePanesSameSavepoint → DealtAreGathered
dealt_are_gathered once same p l i s left ip lo belongs is are = subst (SayStart p l s) (sym are) (subst R (sym lo.is) at_scale)
  where
    R : LayoutData → Type 0
    R m = SayStart p m s (each_task m.stages (whole_task_start p.max (partition_counts p) s m.stages))

    at_scale : SayStart p (layout_of p lo.scale) s (each_task (stages_of p lo.scale) (whole_task_start p.max (partition_counts p) s (stages_of p lo.scale)))
    at_scale =
        let sources = sources_are p lo.scale s ip lo.fits once (record { scale = lo.scale; fits = lo.fits; is = refl }) (start_of_plan p i s belongs is) in
        let windows = windows_are p lo.scale s ip lo.fits is.windows in
        let all = each_task (stages_of p lo.scale) (whole_task_start p.max (partition_counts p) s (stages_of p lo.scale)) in
        record {
          sources = sources;
          windows = windows;
          savepoint = λ number saved gathered.
              gathered
              ∙ ap (λ ss. savepoint_of p ss (windows_in all) number) sources
              ∙ same p s.sources (windows_in all) (windows_of s) number windows;
        }

pub gathered_again : EachPartitionOnce → SamePanesSameSavepoint → AscendingIsInOrder → AcceptedHaveGroups → SavepointsAreGatheredAgain
gathered_again once same rising have p l i bytes s left saved ip lo belongs is from are gathered =
    let say = dealt_are_gathered once same p l i s left ip lo belongs is are in
    subst (Spells bytes) (sym (say.savepoint s.number saved gathered ∙ is_of_start rising have p i from.savepoint s from.is_savepoint from.checked)) from.spelled
