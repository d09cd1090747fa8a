-- Parts of a window state are known by what stands in the panes.
use Rattle.std.proofs.Common.{◌≡◌, ℕ, suc, List, [], ◌∷◌, map, Option, Some, None, refl, sym, ap, ◌∙◌, arith}
use Rattle.std.specs.List.{All}
use Rattle.plan_model.specs.declared.spec.Pane.{Pane}
use Rattle.plan_model.specs.declared.spec.WindowSpec.{WindowSpec}
use Rattle.plan_model.specs.Aggregates.{Aggregated}
use Rattle.plan_model.specs.PlanData.{PlanData}
use Rattle.dataflow_model.specs.declared.role.Role.{Role}
use Rattle.dataflow_model.specs.declared.role.Role.TheVariants as role
use Rattle.dataflow_model.specs.State.{State}
use Rattle.layout_rules.specs.declared.stage.Stage.{Stage}
use Rattle.layout_rules.specs.Stages.{task_role, partitions_of}
use Rattle.aggregates.specs.declared.kind.Kind.{Kind}
use Rattle.aggregates.specs.Kinds.{kind_of}
use Rattle.window_state.specs.declared.parts.Part.{Part}
use Rattle.window_state.specs.Parts.{entries_of, IsPartOf}
use Rattle.redistribute.specs.declared.task_start.PartitionStart.{PartitionStart}
use Rattle.redistribute.specs.declared.task_start.TaskStart.TheVariants.{Window}
use Rattle.redistribute.specs.Parts.{start_of_role, with_windows}
use Rattle.task_steps.specs.Keeping.{ArePartsOf}
use Rattle.task_steps.specs.TaskData.{IsWindowOf}
use Rattle.task_steps.specs.Keeping.{kinds_in}
use Rattle.leg_tasks.specs.Leaving.{part_at, parts_left, part_left, starts_left}

with_kinds : (w : WindowSpec) (parts : List Part) → All (IsPartOf w) parts → parts ≡ map (part_at (kinds_in (Some w))) (entries_of parts)
with_kinds w [] h = refl
with_kinds w (x ∷ xs) h =
    let first = (h 0 x (omega arith)).kinds in
    let rest = with_kinds w xs (λ k d l. h (suc k) d (omega (arith, l))) in
    λ j. record { pane = x.pane; acc = record { kinds = first j; total = x.acc.total } } ∷ rest j

pub parts_are : (window : Option WindowSpec) (parts : List Part) (es : List (Pane × Aggregated)) → ArePartsOf window parts → entries_of parts ≡ es → parts ≡ map (part_at (kinds_in window)) es
parts_are None parts es none same = none ∙ ap (λ xs. map (part_at []) (entries_of xs)) (sym none) ∙ ap (map (part_at [])) same
parts_are (Some w) parts es h same = with_kinds w parts h ∙ ap (map (part_at (kinds_in (Some w)))) same

-- the kinds of a window's task are those of the plan's aggregates
pub kinds_are : (p : PlanData) (window : Option WindowSpec) → IsWindowOf p window → (w : WindowSpec) × (window ≡ Some w) → kinds_in window ≡ map kind_of p.window.aggregates
kinds_are p None is has = absurd (let e = has.1 in cc)
kinds_are p (Some w) is has = ap (λ (x : WindowSpec). map kind_of x.aggregates) is

-- what stands in windows counts at the window's tasks alone
same_at : (r : Role) (starts : List PartitionStart) (xs ys : List Part) → (r ≡ role.Window → xs ≡ ys) → with_windows xs (start_of_role r starts) ≡ with_windows ys (start_of_role r starts)
same_at role.Source starts xs ys h = refl
same_at role.Chain starts xs ys h = refl
same_at role.Window starts xs ys h = ap Window (h refl)
same_at role.Sink starts xs ys h = refl

pub same_part : (counts others : List ℕ) (kinds others_kinds : List Kind) (stages : List Stage) (t : ℕ) (s other : State) → counts ≡ others → (task_role stages t ≡ role.Window → kinds ≡ others_kinds) → s ≡ other
    → part_left counts kinds stages t s ≡ part_left others others_kinds stages t other
same_part counts others kinds others_kinds stages t s other e h same =
    same_at (task_role stages t) (starts_left (partitions_of counts stages t) s) (parts_left kinds s.windows) (parts_left others_kinds s.windows) (λ w. ap (λ k. parts_left k s.windows) (h w))
    ∙ (λ j. part_left (e j) others_kinds stages t (same j))
