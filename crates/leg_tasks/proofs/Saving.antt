-- What the tasks of a layout leave are parts that can be put together.
use Rattle.std.proofs.Common.{◌≡◌, ℕ, zero, suc, ◌<◌, ◌≤◌, List, [], ◌∷◌, cond, T, length, map, get_or, Some, Ordering, Less, Equal, Greater, refl, sym, ap, subst, ◌∙◌, arith}
use Rattle.std.specs.Prelude.{slice_index, slice_get}
use Rattle.std.specs.FinMap.{entries, entries_sorted, empty, get, get-entries, find}
use Rattle.std.specs.FinMap.Entries.{is_sorted, below_all}
use Rattle.std.specs.List.{AllByRecursion, filter, range_with_len}
use Rattle.std.specs.List.Sorted.{IsStrictlySortedBy}
use Rattle.std.specs.Option.{option_map_or}
use Rattle.std.specs.Ordering.{is_lt, is_eq, ordering_reverse}
use Rattle.std.proofs.lemmas.Option.{slice_get-get_or}
use Rattle.std.proofs.lemmas.List.Elements.{All-map}
use Rattle.std.proofs.lemmas.List.Kept.{IsStrictlySortedBy-filter}
use Rattle.std.proofs.lemmas.List.FromFn.{length-map-range_with_len, get_or-map-range_with_len, fill_by_all}
use Rattle.key_groups.specs.Groups.{key_group}
use Rattle.key_groups.specs.Laws.{Has}
use Rattle.key_groups.specs.declared.ranges.GroupRange.{GroupRange}
use Rattle.plan_model.specs.declared.spec.Pane.{Pane}
use Rattle.plan_model.specs.declared.limits.TheConstants.{MOST_RECORDS}
use Rattle.plan_model.specs.Aggregates.{Aggregated}
use Rattle.plan_model.specs.PlanData.{PlanData}
use Rattle.plan_model.specs.Rows.{pane_cmp}
use Rattle.plan_model.proofs.Facts.{pane_cmp_total}
use Rattle.dataflow_model.specs.declared.role.Role.{Role}
use Rattle.dataflow_model.specs.declared.role.Role.TheVariants as role
use Rattle.dataflow_model.specs.Opening.{opening}
use Rattle.dataflow_model.specs.State.{Windows, State}
use Rattle.layout_rules.specs.Layouts.{partition_counts}
use Rattle.layout_rules.specs.Stages.{task_role, task_count, partitions_of, groups_of}
use Rattle.layout_rules.specs.declared.stage.Stage.{Stage}
use Rattle.aggregates.specs.declared.kind.Kind.{Kind}
use Rattle.aggregates.specs.Kinds.{kind_of}
use Rattle.redistribute.specs.Parts.{start_of_role, with_windows}
use Rattle.redistribute.specs.declared.task_start.PartitionStart.{PartitionStart}
use Rattle.redistribute.specs.declared.task_start.TaskStart.{TaskStart}
use Rattle.redistribute.specs.declared.task_start.TaskStart.TheVariants.{Chain}
use Rattle.gather.specs.Saved.{is_in_group}
use Rattle.gather.specs.Parts.{ArePanes, IsPartOf, AreParts}
use Rattle.task_steps.specs.TaskData.{TaskData}
use Rattle.task_steps.specs.declared.seen.Moment.{Moment}
use Rattle.leg_tasks.specs.Leaving.{start_left, starts_left, part_at, parts_left, part_left, all_left, state_at, HaveStates, CanSave}
use Rattle.gather.proofs.Facts.{t_both, less}

-- ---- a map's entries, in their order

above : (x : Pane) (es : List (Pane × Aggregated)) → T (below_all pane_cmp x es) → AllByRecursion (λ y. pane_cmp x y ≡ Less) (map (λ e. e.0) es)
above x [] h = tt
above x (e ∷ es) h = let b = t_both (is_lt (pane_cmp x e.0)) (below_all pane_cmp x es) h in (less (pane_cmp x e.0) b.0, above x es b.1)

ascends : (es : List (Pane × Aggregated)) → T (is_sorted pane_cmp es) → IsStrictlySortedBy pane_cmp (map (λ e. e.0) es)
unfolding IsStrictlySortedBy
ascends [] h = tt
ascends (e ∷ es) h = let b = t_both (below_all pane_cmp e.0 es) (is_sorted pane_cmp es) h in (above e.0 es b.0, ascends es b.1)

below_at : (x : Pane) (es : List (Pane × Aggregated)) (k : ℕ) (d : Pane × Aggregated) → T (below_all pane_cmp x es) → k < length es → pane_cmp x (get_or es k d).0 ≡ Less
below_at x [] k d h l = absurd (omega (arith, l))
below_at x (e ∷ es) zero d h l = less (pane_cmp x e.0) (t_both (is_lt (pane_cmp x e.0)) (below_all pane_cmp x es) h).0
below_at x (e ∷ es) (suc k) d h l = below_at x es k d (t_both (is_lt (pane_cmp x e.0)) (below_all pane_cmp x es) h).1 (omega (arith, l))

same_twice : (r : Ordering) → r ≡ ordering_reverse r → r ≡ Equal
same_twice Less e = absurd cc
same_twice Equal e = refl
same_twice Greater e = absurd cc

-- an entry is what is found at its pane
found : (es : List (Pane × Aggregated)) (k : ℕ) (d : Pane × Aggregated) → T (is_sorted pane_cmp es) → k < length es → find pane_cmp (get_or es k d).0 es ≡ Some (get_or es k d).1
found [] k d h l = absurd (omega (arith, l))
found (e ∷ es) zero d h l =
    let same : pane_cmp e.0 e.0 ≡ Equal = same_twice (pane_cmp e.0 e.0) (pane_cmp_total.antisymm e.0 e.0) in
    ap (λ r. cond (is_eq r) (Some e.1) (find pane_cmp e.0 es)) same
found (e ∷ es) (suc k) d h l =
    let x = get_or es k d in
    let b = t_both (below_all pane_cmp e.0 es) (is_sorted pane_cmp es) h in
    let low = below_at e.0 es k d b.0 (omega (arith, l)) in
    let high : pane_cmp x.0 e.0 ≡ Greater = pane_cmp_total.antisymm x.0 e.0 ∙ ap ordering_reverse low in
    ap (λ r. cond (is_eq r) (Some e.1) (find pane_cmp x.0 es)) high ∙ found es k d b.1 (omega (arith, l))

-- ---- the panes of a task

panes_left : (kinds : List Kind) (es : List (Pane × Aggregated)) → map (λ part. part.pane) (map (part_at kinds) es) ≡ map (λ e. e.0) es
panes_left kinds [] = refl
panes_left kinds (e ∷ es) = ap (λ (qs : List Pane). e.0 ∷ qs) (panes_left kinds es)

-- panes of a range's key groups, with few records each
abbrev AreOwned : PlanData → GroupRange → Windows → Type 0
AreOwned p range windows = (q : Pane) (a : Aggregated) → get windows q ≡ Some a → Has range (key_group p.max q.key) × (a.count ≤ MOST_RECORDS)

are_panes : (p : PlanData) (range : GroupRange) (windows : Windows) → AreOwned p range windows → ArePanes p range (parts_left (map kind_of p.window.aggregates) windows)
are_panes p range windows owned =
    let kinds = map kind_of p.window.aggregates in
    let es = entries windows in
    let sound = entries_sorted windows in
    let at : (k : ℕ) (d : Pane × Aggregated) → k < length es → get windows (get_or es k d).0 ≡ Some (get_or es k d).1 = λ k d l. get-entries windows (get_or es k d).0 ∙ found es k d sound l in
    record {
      ordered = λ g. subst (λ qs. IsStrictlySortedBy pane_cmp (filter (is_in_group p.max g) qs)) (sym (panes_left kinds es)) (IsStrictlySortedBy-filter pane_cmp (is_in_group p.max g) (map (λ e. e.0) es) (ascends es sound));
      kinds = All-map (λ part. part.acc.kinds ≡ kinds) (part_at kinds) es (λ k d l. refl);
      counted = All-map (λ part. part.acc.total.count ≤ MOST_RECORDS) (part_at kinds) es (λ k d l. (owned (get_or es k d).0 (get_or es k d).1 (at k d l)).1);
      owned = All-map (λ part. Has range (key_group p.max part.pane.key)) (part_at kinds) es (λ k d l. (owned (get_or es k d).0 (get_or es k d).1 (at k d l)).0);
    }

-- ---- the partitions of a task

map_twice : (g : PartitionStart → ℕ) (f : ℕ → PartitionStart) (xs : List ℕ) → map g (map f xs) ≡ map (λ k. g (f k)) xs
map_twice g f [] = refl
map_twice g f (x ∷ xs) = ap (λ (ys : List ℕ). g (f x) ∷ ys) (map_twice g f xs)

numbers_left : (qs : List ℕ) (s : State) → map (λ b. b.partition) (starts_left qs s) ≡ qs
numbers_left qs s = map_twice (λ b. b.partition) (start_left qs s) (range_with_len 0 (length qs)) ∙ sym (fill_by_all (slice_index qs) qs (length qs) 0 refl (λ k l. refl))

-- ---- all tasks

of_role : (p : PlanData) (stages : List Stage) (t : ℕ) (s : State) (r : Role) → task_role stages t ≡ r → (r ≡ role.Window → AreOwned p (groups_of p.max stages t) s.windows)
    → IsPartOf p stages t (with_windows (parts_left (map kind_of p.window.aggregates) s.windows) (start_of_role r (starts_left (partitions_of (partition_counts p) stages t) s)))
of_role p stages t s role.Source e owned = (e, numbers_left (partitions_of (partition_counts p) stages t) s)
of_role p stages t s role.Chain e owned = e
of_role p stages t s role.Window e owned = (e, are_panes p (groups_of p.max stages t) s.windows (owned refl))
of_role p stages t s role.Sink e owned = e

pub are_parts : (p : PlanData) (stages : List Stage) (states : ℕ → State) → ((t : ℕ) → t < task_count stages → task_role stages t ≡ role.Window → AreOwned p (groups_of p.max stages t) (states t).windows) → AreParts p stages (all_left p stages states)
are_parts p stages states owned =
    let f : ℕ → TaskStart = λ t. part_left (partition_counts p) (map kind_of p.window.aggregates) stages t (states t) in
    let n = task_count stages in
    record {
      counted = length-map-range_with_len f 0 n;
      each = λ t l. subst (IsPartOf p stages t) (sym (get_or-map-range_with_len f 0 n t t Chain l (omega arith))) (of_role p stages t (states t) (task_role stages t) refl (owned t l));
    }

-- ---- the states of tasks

abbrev no_state : State
no_state = opening 0 [] [] empty

abbrev pub states_in : List TaskData → ℕ → State
states_in tasks t = option_map_or (λ (d : TaskData). d.state) (slice_get tasks t) no_state

pub have_states : (p : PlanData) (stages : List Stage) (at : Moment) (tasks : List TaskData) → CanSave p stages at tasks → HaveStates stages tasks (states_in tasks)
have_states p stages at tasks can t d l = sym (ap (λ o. option_map_or (λ (x : TaskData). x.state) o no_state) (slice_get-get_or tasks t d (let c = can.count in omega (arith, c, l))))

pub parts_saved : (p : PlanData) (stages : List Stage) (at : Moment) (tasks : List TaskData) → CanSave p stages at tasks → AreParts p stages (all_left p stages (λ t. state_at at (states_in tasks t)))
parts_saved p stages at tasks can =
    are_parts p stages (λ t. state_at at (states_in tasks t)) (λ t l h q a e.
    let d = task_at tasks t (let c = can.count in omega (arith, c, l)) in
    (can.each t d l).panes q a h (ap (λ (s : State). get (state_at at s).windows q) (have_states p stages at tasks can t d l) ∙ e))
  where
    -- a task of a list that has one there
    task_at : (xs : List TaskData) (k : ℕ) → k < length xs → TaskData
    task_at [] k l = absurd (omega (arith, l))
    task_at (x ∷ xs) k l = x
