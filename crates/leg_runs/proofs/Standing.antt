-- What a step leaves to the tasks that it does not touch.
use Rattle.std.proofs.Common.{◌≡◌, ℕ, ◌<◌, List, [], ◌∷◌, ◌++◌, Option, length, map, refl, sym, ap, subst, ◌∙◌, inl, inr, arith}
use Rattle.std.specs.Prelude.{◌⊎◌, Some, None, slice_index, unwrap_or}
use Rattle.std.specs.List.{range_with_len}
use Rattle.std.proofs.lemmas.Bool.{cases_eq}
use Rattle.std.proofs.lemmas.Option.{none-some}
use Rattle.dataflow_laws.specs.declared.step.Step.{Step}
use Rattle.dataflow_laws.specs.declared.step.Step.TheVariants.{Read, Save, Stop, Close, Take, Put}
use Rattle.dataflow_laws.specs.StepTask.{task_of}
use Rattle.dataflow_laws.specs.StepMoves.{Makes}
use Rattle.dataflow_laws.specs.World as flow
use Rattle.layout_rules.specs.Stages.{inputs_of, partitions_of}
use Rattle.plan_compiler.specs.LayoutData.{LayoutData}
use Rattle.core_steps.specs.Given.{layout_in}
use Rattle.core_steps.specs.World.{WorldData, world_in}
use Rattle.core_steps.specs.Answers.{LeadsTo, CanMake}
use Rattle.leg_runs.specs.Choosing.{steps_of, HasCount, AreCounts, IsRecounted, IsSameFor, LeavesOthers}
use Rattle.leg_runs.proofs.Frames.{same_move}
use Rattle.leg_runs.proofs.Orders.{other}
use Rattle.leg_runs.proofs.Selecting.{AllOf, likewise}

-- a task that is the same in two worlds of one leg has the same steps there
pub can_stay : (w v : WorldData) (step : Step) → v.given ≡ w.given → IsSameFor (task_of step) (world_in w) (world_in v) → CanMake w step → CanMake v step
can_stay w v step given same can =
    let g = w.given in
    let there = same_move g.plan (layout_in g) g.layout.capacity (world_in w) (world_in v) (task_of step) can.1.event can.0 same can.1.move in
    subst (λ h. (next : flow.World) × Makes h.plan (layout_in h) h.layout.capacity (world_in v) step next) (sym given) (there.0, record { event = can.1.event; is = can.1.is; move = there.1 })

same_back : (u : ℕ) (w v : flow.World) → IsSameFor u w v → IsSameFor u v w
same_back u w v same = record { task = sym same.task; out = λ x. sym (same.out x); into = λ x. sym (same.into x) }

-- each of a task's steps is its own
all_more : {X : Type 0} (P : X → Type 0) (xs ys : List X) → AllOf P xs → AllOf P ys → AllOf P (xs ++ ys)
all_more P [] ys a b = b
all_more P (x ∷ xs) ys a b = (a.0, all_more P xs ys a.1 b)

all_map : {X Y : Type 0} (P : Y → Type 0) (f : X → Y) (xs : List X) → ((x : X) → P (f x)) → AllOf P (map f xs)
all_map P f [] h = tt
all_map P f (x ∷ xs) h = (h x, all_map P f xs h)

own : (l : LayoutData) (t : ℕ) → AllOf (λ step. task_of step ≡ t) (steps_of l t)
own l t =
    let mine : Step → Type 0 = λ step. task_of step ≡ t in
    let ps = partitions_of l.partitions l.stages t in
    let takes = range_with_len 0 (length (inputs_of l.stages t)) in (
      refl,
      all_more mine (map (Read t) ps) (Save t ∷ Stop t ∷ Close t ∷ (map (Take t) takes ++ Put t ∷ [])) (all_map mine (Read t) ps (λ q. refl))
          (refl, (refl, (refl, all_more mine (map (Take t) takes) (Put t ∷ []) (all_map mine (Take t) takes (λ i. refl)) (refl, tt)))),
    )

-- so it can make as many
count_stays : (w v : WorldData) (l : LayoutData) (t n : ℕ) → v.given ≡ w.given → IsSameFor t (world_in w) (world_in v) → HasCount (CanMake w) (steps_of l t) n → HasCount (CanMake v) (steps_of l t) n
count_stays w v l t n given same has = (
  has.0,
  likewise (CanMake w) (CanMake v) (λ step. task_of step ≡ t) (steps_of l t) has.0
      (λ step mine can. can_stay w v step given (subst (λ u. IsSameFor u (world_in w) (world_in v)) (sym mine) same) can)
      (λ step mine can. can_stay v w step (sym given) (subst (λ u. IsSameFor u (world_in v) (world_in w)) (sym mine) (same_back t (world_in w) (world_in v) same)) can)
      (own l t) has.1,
  has.2,
)

is_other : (other : Option ℕ) (t : ℕ) → (other ≡ Some t) ⊎ (other ≡ Some t → ⊥)
is_other None t = inr (none-some t)
is_other (Some u) t = elim (cases_eq u t) [
  | inl e ↦ inl (ap Some e)
  | inr ne ↦ inr (λ e. ne (ap (λ o. unwrap_or o u) e))
]

-- after a step, for which the two tasks were counted anew that it may touch, all are counted
pub counts_stay : (w v : WorldData) (l : LayoutData) (step : Step) (task : ℕ) (other : Option ℕ) (old new : List ℕ) → v.given ≡ w.given → LeadsTo w step (world_in v) → LeavesOthers w step other → task ≡ task_of step → AreCounts w l old → IsRecounted v l task other old new → AreCounts v l new
counts_stay w v l step task other old new given leads others mine are anew = record {
  all = anew.all ∙ are.all;
  each = λ t less.
      let there : t < length old = (let e = are.all in omega (arith, e, less)) in
      elim (cases_eq t task) [
        | inl e ↦ anew.anew t there less (inl e)
        | inr ne ↦ elim (is_other other t) [
          | inl e ↦ anew.anew t there less (inr e)
          | inr nor ↦ subst (HasCount (CanMake v) (steps_of l t)) (sym (anew.kept t ne nor))
              (count_stays w v l t (slice_index old t) given (others (world_in v) leads t (λ e. ne (e ∙ sym mine)) nor) (are.each t less))
        ]
      ];
}
