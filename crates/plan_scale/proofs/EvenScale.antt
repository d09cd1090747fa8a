-- The scale of one parallelism for every operator is a scale of the plan.
use Rattle.std.proofs.Common.{◌≡◌, ℕ, ◌≤◌, min, true, List, [], ◌∷◌, length, sym, ap, ◌∙◌, arith}
use Rattle.std.specs.Prelude.{nat_le}
use Rattle.std.specs.List.{All}
use Rattle.std.proofs.lemmas.Bool.{and_parts, leb-true}
use Rattle.std.proofs.lemmas.List.{length-map}
use Rattle.std.proofs.lemmas.List.Elements.{All-map, All-head}
use Rattle.plan_model.specs.declared.spec.SourceSpec.{SourceSpec}
use Rattle.plan_model.specs.declared.spec.FilterSpec.{FilterSpec}
use Rattle.plan_model.specs.PlanData.{PlanData, IsPlan}
use Rattle.key_groups.specs.declared.limits.TheConstants.{MOST_SUBTASKS}
use Rattle.layout_rules.specs.declared.limits.TheConstants.{MOST_TASKS}
use Rattle.layout_rules.specs.declared.stage.FilterScale.{FilterScale}
use Rattle.layout_rules.specs.Scale.{IsParallelism, IsScale}
use Rattle.layout_rules.specs.ScaleData.{ScaleData}
use Rattle.layout_rules.specs.Stages.{task_count}
use Rattle.layout_rules.specs.Rules.{stages_of}
use Rattle.plan_scale.specs.Tasks as counted
use Rattle.plan_scale.specs.Tasks.{IsSmall}
use Rattle.plan_scale.specs.Even.{most_partitions, even_scale, is_parallelism, has_few_tasks}
use Rattle.plan_scale.proofs.TaskCount.{tasks_are}
use Rattle.plan_scale.proofs.Sound.{IsCounted, small}

tested : (plan : PlanData) (n : ℕ) → is_parallelism plan n ≡ true → IsParallelism plan.max n
unfolding is_parallelism
tested plan n h =
    let parts = and_parts (nat_le 1 n) (nat_le n (min MOST_SUBTASKS plan.max)) h in
    let below = leb-true n (min MOST_SUBTASKS plan.max) parts.1 in
    record { some = leb-true 1 n parts.0; few = omega (arith, below); grouped = omega (arith, below) }

-- fewer are as good, as long as there is one
fewer : (most n m : ℕ) → IsParallelism most n → 1 ≤ m → IsParallelism most (min n m)
fewer most n m h some =
    let first = h.some in
    let few = h.few in
    let grouped = h.grouped in
    record { some = omega (arith, first, some); few = omega (arith, few); grouped = omega (arith, grouped) }

some_partition : (ss : List SourceSpec) → All (λ s. 1 ≤ s.partitions) ss → 1 ≤ length ss → 1 ≤ most_partitions ss
some_partition [] all some = absurd (omega (arith, some))
some_partition (s ∷ ss) all some = let first = All-head (λ (t : SourceSpec). 1 ≤ t.partitions) s ss all in omega (arith, first)

within : (plan : PlanData) (n : ℕ) → IsPlan plan → is_parallelism plan n ≡ true → IsCounted plan (even_scale plan n)
within plan n p met =
    let whole = tested plan n met in
    let filter = fewer plan.max n (most_partitions plan.sources) whole (some_partition plan.sources p.partitioned p.sourced) in
    record {
      fits = record { sources = length-map plan.sources (λ (s : SourceSpec). min n s.partitions); filters = length-map plan.filters (λ (f : FilterSpec). record { parallelism = min n (most_partitions plan.sources); chain = true }) };
      sources = All-map (IsParallelism plan.max) (λ (s : SourceSpec). min n s.partitions) plan.sources (λ k d h. fewer plan.max n _ whole (p.partitioned k d h));
      filters = All-map (λ (f : FilterScale). IsParallelism plan.max f.parallelism) (λ (f : FilterSpec). record { parallelism = min n (most_partitions plan.sources); chain = true }) plan.filters (λ k d h. filter);
      window = whole;
    }

pub even_small : (plan : PlanData) (n : ℕ) (c : ScaleData) → IsPlan plan → is_parallelism plan n ≡ true → c ≡ even_scale plan n → IsSmall c
even_small plan n c p met is = rw is (small plan (even_scale plan n) p (within plan n p met))

-- the test of the tasks that are counted is that of the rules' tasks
pub even_few : (plan : PlanData) (n : ℕ) (c : ScaleData) (count : ℕ) → IsPlan plan → is_parallelism plan n ≡ true → c ≡ even_scale plan n → count ≡ counted.task_count c → nat_le count MOST_TASKS ≡ has_few_tasks plan n
unfolding has_few_tasks
even_few plan n c count p met is said =
    ap (λ (m : ℕ). nat_le m MOST_TASKS) (said ∙ ap counted.task_count is ∙ sym (tasks_are plan (even_scale plan n) p (within plan n p met).fits))

pub even_is_scale : (plan : PlanData) (n : ℕ) → IsPlan plan → is_parallelism plan n ≡ true → has_few_tasks plan n ≡ true → IsScale plan (even_scale plan n)
unfolding has_few_tasks
even_is_scale plan n p met few =
    let all = within plan n p met in
    record {
      capacity = record { some = omega arith; small = omega arith };
      sources = all.fits.sources;
      filters = all.fits.filters;
      source_parallelisms = all.sources;
      filter_parallelisms = all.filters;
      window_parallelism = all.window;
      tasks_few = leb-true (task_count (stages_of plan (even_scale plan n))) MOST_TASKS few;
    }
