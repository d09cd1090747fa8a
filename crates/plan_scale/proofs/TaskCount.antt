-- The tasks that the rules give, counted filter by filter.
use Rattle.std.proofs.Common.{◌≡◌, ℕ, zero, suc, ◌+◌, ◌-◌, ◌<◌, Bool, true, false, cond, ◌&&◌, eqb, List, [], ◌∷◌, length, drop, get_or, Option, Some, None, refl, ap, ◌∙◌, arith}
use Rattle.std.specs.Option.{option_map_or}
use Rattle.std.proofs.lemmas.Bool.Decides.{nat_tests}
use Rattle.std.proofs.lemmas.List.{drop_all}
use Rattle.std.proofs.Math.Seq.{drop-cons}
use Rattle.plan_model.specs.PlanData.{PlanData, IsPlan}
use Rattle.layout_rules.specs.declared.stage.Operator.{Operator}
use Rattle.layout_rules.specs.declared.stage.Operator.TheVariants.{Filter}
use Rattle.layout_rules.specs.ScaleData.{ScaleData}
use Rattle.layout_rules.specs.Below.{sum_below}
use Rattle.layout_rules.specs.Stages.{task_count}
use Rattle.layout_rules.specs.Rules.{filter_scale, parallelism_of, may_chain_to, is_chained, before_filter, tasks_opened_by, stages_of}
use Rattle.layout_rules.proofs.Facts.{tasks_counted}
use Rattle.plan_scale.specs.Tasks as counted
use Rattle.plan_scale.specs.Tasks.{only_parallelism, chains_to, filter_tasks}
use Rattle.plan_model.proofs.Facts.{and_true, and_false}

-- the parallelism of an operator that a filter may join
before : PlanData → ScaleData → Operator → Option ℕ
before p c o = cond (may_chain_to p o) (Some (parallelism_of c o)) None

may_join : (m : Bool) (a b : ℕ) → (eqb a b && m) ≡ option_map_or (λ n. eqb n b) (cond m (Some a) None) false
may_join true a b = and_true (eqb a b)
may_join false a b = and_false (eqb a b)

same_test : (p : PlanData) (c : ScaleData) (o : Operator) (k : ℕ) → is_chained p c o (Filter k) ≡ chains_to (before p c o) (filter_scale c k)
unfolding before
same_test p c o k = ap (λ (b : Bool). (filter_scale c k).chain && b) (may_join (may_chain_to p o) (parallelism_of c o) (filter_scale c k).parallelism)

filters_open : (p : PlanData) (c : ScaleData) (n k : ℕ) → k + n ≡ length c.filters
    → sum_below (tasks_opened_by p c) k + filter_tasks (before p c (before_filter p k)) (drop k c.filters) ≡ sum_below (tasks_opened_by p c) (length c.filters)
unfolding before
filters_open p c zero k all =
    let none : drop k c.filters ≡ [] = drop_all k c.filters (omega arith) in
    let e : k ≡ length c.filters = omega arith in
    rw (none, ← e) (omega arith)
filters_open p c (suc n) k all =
    let within : k < length c.filters = omega arith in
    let ih = filters_open p c n (suc k) (omega arith) in
    rw (drop-cons c.filters k (record { parallelism = 1; chain = false }), ← same_test p c (before_filter p k) k) (omega (arith, ih))

before_filters : (ns : List ℕ) → 0 < length ns → cond (eqb (length ns) 1) (Some (get_or ns (length ns - 1) 1)) None ≡ only_parallelism ns
before_filters [] some = absurd (omega (arith, some))
before_filters (x ∷ []) some = refl
before_filters (x ∷ y ∷ ns) some = let e : eqb (suc (suc (length ns))) 1 ≡ false = grind (arith, nat_tests) in rw e refl

-- the scale's lists are as long as the plan's
pub record Fits (p : PlanData) (c : ScaleData) : Type 0 where
  pub sources : length c.sources ≡ length p.sources
  pub filters : length c.filters ≡ length p.filters

pub tasks_are : (p : PlanData) (c : ScaleData) → IsPlan p → Fits p c → task_count (stages_of p c) ≡ counted.task_count c
unfolding before
tasks_are p c ip fits =
    let some = ip.sourced in
    let last : before p c (before_filter p 0) ≡ only_parallelism c.sources = rw (← fits.sources) (before_filters c.sources (omega (arith, fits.sources))) in
    let filters : 0 + filter_tasks (before p c (before_filter p 0)) (drop 0 c.filters) ≡ sum_below (tasks_opened_by p c) (length c.filters) = filters_open p c (length c.filters) 0 (omega arith) in
    let counted = tasks_counted p c ip fits.sources in
    let opened : filter_tasks (only_parallelism c.sources) c.filters ≡ sum_below (tasks_opened_by p c) (length p.filters) = rw (← last, ← fits.filters) (omega (arith, filters)) in
    counted ∙ rw opened refl
