-- Each key group stands in the panes of one task.
use Rattle.std.proofs.Common.{◌≡◌, ℕ, zero, suc, ◌+◌, ◌-◌, ◌<◌, ◌≤◌, ◌⊎◌, Bool, false, cond, List, [], ◌∷◌, ◌++◌, length, map, get_or, refl, sym, ap, subst, ◌∙◌, inl, inr, arith}
use Rattle.std.specs.List.{All, filter, flat_map}
use Rattle.std.specs.List.Sorted.{IsStrictlySortedBy}
use Rattle.std.proofs.lemmas.Bool.{cases_Bool, cases_lt, eqb-true}
use Rattle.std.proofs.lemmas.List.{map-append, append-nil, length-map}
use Rattle.std.proofs.lemmas.List.Elements.{All-append, All-nil, filter-append}
use Rattle.key_groups.specs.Groups.{key_group}
use Rattle.key_groups.specs.Laws.{Has, OwnersHaveRanges}
use Rattle.key_groups.specs.Ranges.{group_owner}
use Rattle.plan_model.specs.declared.spec.Pane.{Pane}
use Rattle.plan_model.specs.PlanData.{PlanData, IsPlan}
use Rattle.plan_model.specs.Rows.{pane_cmp}
use Rattle.plan_model.specs.declared.limits.TheConstants.{MOST_RECORDS}
use Rattle.dataflow_model.specs.declared.role.Role.TheVariants as role
use Rattle.dataflow_model.specs.Role.{is_window}
use Rattle.dataflow_model.specs.AbstractLayout.{AbstractLayout, IsLayout}
use Rattle.layout_rules.specs.Below.{sum_below, row_of}
use Rattle.layout_rules.specs.declared.stage.Stage.{Stage}
use Rattle.layout_rules.specs.Rules.{window_of, stages_of}
use Rattle.layout_rules.specs.Scale.{ScaleData, IsScale}
use Rattle.layout_rules.specs.Stages.{parallelism_at, role_of, stage_at, stage_of, subtask_of, task_role, task_count, groups_of}
use Rattle.layout_rules.specs.Layouts.{abstract_layout}
use Rattle.layout_rules.proofs.Facts.{compiled_ever, compiled_is_layout, stages_are_bounded, row_is, row_at, is_subtask}
use Rattle.plan_compiler.specs.LayoutData.{LayoutData, IsLayoutOf}
use Rattle.aggregates.specs.declared.kind.Kind.{Kind}
use Rattle.aggregates.specs.Kinds.{kind_of}
use Rattle.window_state.specs.declared.parts.Part.{Part}
use Rattle.redistribute.specs.declared.task_start.TaskStart.{TaskStart}
use Rattle.redistribute.specs.declared.task_start.TaskStart.TheVariants.{Source, Chain, Window, Sink}
use Rattle.redistribute.proofs.Facts.{last_row, nothing, no_leg}
use Rattle.gather.specs.Saved.{is_in_group}
use Rattle.gather.specs.Parts.{panes_in, part_at, panes_in_group, ArePanes, IsPartOf, AreParts}

module _ (owners : OwnersHaveRanges) (p : PlanData) (c : ScaleData) (ip : IsPlan p) (sc : IsScale p c) where
  abbrev S : List Stage
  S = stages_of p c

  abbrev F : ℕ → ℕ
  F = sum_below (parallelism_at S)

  abbrev W : ℕ
  W = window_of S

  abbrev L : AbstractLayout
  L = abstract_layout p nothing no_leg S W

  known : IsLayout L
  known = (compiled_is_layout p c nothing no_leg S ip sc (compiled_ever p c)).0

  -- the window's stage, and the sink's behind it
  long : length S ≡ suc (suc W)
  long = let b = stages_are_bounded p c ip sc in let m = b.more in let s = ip.sourced in omega (arith, m, s)

  at_last : (u : ℕ) → L.sink ≤ u → stage_of S u ≡ suc W
  at_last u m = ap (λ n. row_of (parallelism_at S) n u) long ∙ last_row (parallelism_at S) (suc W) u m

  -- a window's task stands in the window's stage
  in_stage : (t : ℕ) → task_role S t ≡ role.Window → stage_of S t ≡ W
  in_stage t h =
      elim (cases_lt t L.before) [
        | inl k ↦ absurd (
            let chain = known.roles_before t k (λ e. let z : is_window role.Window ≡ is_window role.Source = ap is_window (sym h ∙ e) in cc) in
            let z : is_window role.Window ≡ is_window role.Chain = ap is_window (sym h ∙ chain) in
            cc)
        | inr k ↦ elim (cases_lt t L.sink) [
          | inl m ↦
              let r = row_at (parallelism_at S) (length S) W (t - F W) (let l = long in omega (arith, l)) (omega arith) in
              let e : F W + (t - F W) ≡ t = omega arith in
              ap (row_of (parallelism_at S) (length S)) (sym e) ∙ r.0
          | inr m ↦ absurd (
              let same : task_role S t ≡ task_role S L.sink = ap (λ a. role_of (stage_at S a).operators) (at_last t m ∙ sym (at_last L.sink (omega arith))) in
              let z : is_window role.Window ≡ is_window role.Sink = ap is_window (sym h ∙ same ∙ known.role_sink) in
              cc)
        ]
      ]

  -- the task that owns a key group
  abbrev owner : ℕ → ℕ
  owner g = F W + group_owner p.max (parallelism_at S W) g

  is_owner : (t g : ℕ) → t < task_count S → task_role S t ≡ role.Window → g < p.max → Has (groups_of p.max S t) g → t ≡ owner g
  is_owner t g lt h below has =
      let sub = is_subtask S t lt in
      let row = row_is (parallelism_at S) (length S) t lt in
      let par = (stages_are_bounded p c ip sc).parallelism (stage_of S t) sub.stage in
      let some = par.some in
      let grouped = par.grouped in
      let own = (owners p.max (parallelism_at S (stage_of S t)) (subtask_of S t) g some grouped sub.subtask below).1 has in
      let there : t ≡ F (stage_of S t) + group_owner p.max (parallelism_at S (stage_of S t)) g = omega (arith, own, row.1) in
      there ∙ ap (λ a. F a + group_owner p.max (parallelism_at S a) g) (in_stage t h)

-- panes of which none is in the group
pub none_there : (q : Pane → Bool) (parts : List Part) → All (λ part. q part.pane ≡ false) parts → filter q (map (λ part. part.pane) parts) ≡ []
none_there q [] h = refl
none_there q (x ∷ xs) h = ap (λ b. cond b (x.pane ∷ filter q (map (λ part. part.pane) xs)) (filter q (map (λ part. part.pane) xs))) (h 0 x (omega arith)) ∙ none_there q xs (λ k d l. h (suc k) d (omega (arith, l)))

pub each_in : {X : Type 0} (max g : ℕ) (f : X → List Part) (xs : List X) → panes_in_group max g (flat_map f xs) ≡ flat_map (λ x. panes_in_group max g (f x)) xs
each_in max g f [] = refl
each_in max g f (x ∷ xs) =
    ap (filter (is_in_group max g)) (map-append (λ part. part.pane) (f x) (flat_map f xs))
    ∙ filter-append (is_in_group max g) (map (λ part. part.pane) (f x)) (map (λ part. part.pane) (flat_map f xs))
    ∙ ap (λ qs. panes_in_group max g (f x) ++ qs) (each_in max g f xs)

-- where at most one gives anything, all give what that one does
pub empty : {X Y : Type 0} (f : X → List Y) (xs : List X) (d : X) → ((i : ℕ) → i < length xs → f (get_or xs i d) ≡ []) → flat_map f xs ≡ []
empty f [] d h = refl
empty f (x ∷ xs) d h = ap (λ ys. ys ++ flat_map f xs) (h 0 (omega arith)) ∙ empty f xs d (λ i l. h (suc i) (omega (arith, l)))

pub only_one : {X Y : Type 0} (f : X → List Y) (xs : List X) (k : ℕ) (d : X) → f d ≡ [] → ((i : ℕ) → i < length xs → (i ≡ k → ⊥) → f (get_or xs i d) ≡ []) → flat_map f xs ≡ f (get_or xs k d)
only_one f [] k d none h = sym none
only_one f (x ∷ xs) zero d none h = ap (λ ys. f x ++ ys) (empty f xs d (λ i l. h (suc i) (omega (arith, l)) (λ e. omega (arith, e)))) ∙ append-nil (f x)
only_one f (x ∷ xs) (suc k) d none h = ap (λ ys. ys ++ flat_map f xs) (h 0 (omega arith) (λ e. omega (arith, e))) ∙ only_one f xs k d none (λ i l ne. h (suc i) (omega (arith, l)) (λ e. ne (omega (arith, e))))

-- what a task has in its panes
pub has_panes : (p : PlanData) (stages : List Stage) (t : ℕ) (part : TaskStart) → IsPartOf p stages t part → (panes_in part ≡ []) ⊎ ((task_role stages t ≡ role.Window) × ArePanes p (groups_of p.max stages t) (panes_in part))
has_panes p stages t (Source starts) h = inl refl
has_panes p stages t Chain h = inl refl
has_panes p stages t (Window parts) h = inr h
has_panes p stages t Sink h = inl refl

all_panes : {Y : Type 0} (P : Y → Type 0) (f : TaskStart → List Y) (xs : List TaskStart) (d : TaskStart) → ((i : ℕ) → i < length xs → All P (f (get_or xs i d))) → All P (flat_map f xs)
all_panes P f [] d h = All-nil P
all_panes P f (x ∷ xs) d h = All-append P (f x) (flat_map f xs) (h 0 (omega arith)) (all_panes P f xs d (λ i l. h (suc i) (omega (arith, l))))

-- what holds of each window's task's panes holds of all
every_pane : (P : Part → Type 0) (p : PlanData) (stages : List Stage) (parts : List TaskStart) → AreParts p stages parts → ((t : ℕ) (panes : List Part) → ArePanes p (groups_of p.max stages t) panes → All P panes) → All P (flat_map panes_in parts)
every_pane P p stages parts h f =
    let counted = h.counted in
    all_panes P panes_in parts Chain (λ t l.
    elim (has_panes p stages t (part_at parts t) (h.each t (omega (arith, l, counted)))) [
      | inl none ↦ subst (All P) (sym none) (All-nil P)
      | inr w ↦ f t (panes_in (part_at parts t)) w.1
    ])

pub all_kinds : (p : PlanData) (stages : List Stage) (parts : List TaskStart) → AreParts p stages parts → All (λ part. part.acc.kinds ≡ map kind_of p.window.aggregates) (flat_map panes_in parts)
all_kinds p stages parts h = every_pane (λ part. part.acc.kinds ≡ map kind_of p.window.aggregates) p stages parts h (λ t panes w. w.kinds)

pub all_counted : (p : PlanData) (stages : List Stage) (parts : List TaskStart) → AreParts p stages parts → All (λ part. part.acc.total.count ≤ MOST_RECORDS) (flat_map panes_in parts)
all_counted p stages parts h = every_pane (λ part. part.acc.total.count ≤ MOST_RECORDS) p stages parts h (λ t panes w. w.counted)

pub all_wide : (p : PlanData) (stages : List Stage) (parts : List TaskStart) → AreParts p stages parts → All (λ part. length part.acc.kinds ≡ length p.window.aggregates) (flat_map panes_in parts)
all_wide p stages parts h = λ k d l. ap (length {A = Kind}) (all_kinds p stages parts h k d l) ∙ length-map p.window.aggregates kind_of

pub sorted_nil : IsStrictlySortedBy pane_cmp []
unfolding IsStrictlySortedBy
sorted_nil = tt

-- the panes of a key group ascend, through all tasks
pub in_order : OwnersHaveRanges → (p : PlanData) (l : LayoutData) (parts : List TaskStart) → IsPlan p → IsLayoutOf p l → AreParts p l.stages parts → (g : ℕ) → IsStrictlySortedBy pane_cmp (panes_in_group p.max g (flat_map panes_in parts))
in_order owners p l parts ip lo h g =
    let stages = l.stages in
    let counted = h.counted in
    let grouped = ip.grouped in
    let of : LayoutData → Type 0 = λ m. (t : ℕ) → t < task_count m.stages → task_role m.stages t ≡ role.Window → g < p.max → Has (groups_of p.max m.stages t) g → t ≡ owner owners p lo.scale ip lo.fits g in
    let own = subst of (sym lo.is) (λ t lt w below has. is_owner owners p lo.scale ip lo.fits t g lt w below has) in
    let k = owner owners p lo.scale ip lo.fits g in
    let f : TaskStart → List Pane = λ x. panes_in_group p.max g (panes_in x) in
    let one : flat_map f parts ≡ f (part_at parts k) = only_one f parts k Chain refl (λ t lt other.
    elim (has_panes p stages t (part_at parts t) (h.each t (omega (arith, lt, counted)))) [
      | inl none ↦ ap (panes_in_group p.max g) none
      | inr w ↦ none_there (is_in_group p.max g) (panes_in (part_at parts t)) (λ i d below. elim (cases_Bool (is_in_group p.max g (get_or (panes_in (part_at parts t)) i d).pane)) [
        | inl here ↦ absurd (
            let key = (get_or (panes_in (part_at parts t)) i d).pane.key in
            let e : key_group p.max key ≡ g = eqb-true (key_group p.max key) g here in
            other (own t (omega (arith, lt, counted)) w.0 (omega (arith, e, grouped)) (subst (Has (groups_of p.max stages t)) e (w.1.owned i d below))))
        | inr other_group ↦ other_group
      ])
    ]) in
    let there : IsStrictlySortedBy pane_cmp (f (part_at parts k)) =
    elim (cases_lt k (length parts)) [
      | inl lt ↦ elim (has_panes p stages k (part_at parts k) (h.each k (omega (arith, lt, counted)))) [
        | inl none ↦ subst (λ ps. IsStrictlySortedBy pane_cmp (panes_in_group p.max g ps)) (sym none) sorted_nil
        | inr w ↦ w.1.ordered g
      ]
      | inr past ↦ subst (λ x. IsStrictlySortedBy pane_cmp (f x)) (sym (past_end parts k past)) sorted_nil
    ] in
    subst (IsStrictlySortedBy pane_cmp) (sym (each_in p.max g panes_in parts ∙ one)) there
  where
    past_end : (xs : List TaskStart) (i : ℕ) → length xs ≤ i → get_or xs i Chain ≡ Chain
    past_end [] i le = refl
    past_end (x ∷ xs) zero le = absurd (omega arith)
    past_end (x ∷ xs) (suc i) le = past_end xs i (omega (arith, le))
