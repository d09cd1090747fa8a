-- What is read of a text that meets every requirement is a scale of the plan.
use Rattle.std.proofs.Common.{◌≡◌, ℕ, ◌+◌, ◌*◌, ◌≤◌, ℤ, pos, negsuc, min, true, List, [], ◌∷◌, sum, map, length, Option, Some, refl, sym, ap, ◌∙◌, inl, inr, arith}
use Rattle.std.specs.Prelude.{unsigned_abs, nat_le}
use Rattle.std.specs.List.{All}
use Rattle.std.proofs.lemmas.Bool.{cases_Bool, leb-true}
use Rattle.std.proofs.lemmas.Int.{ints}
use Rattle.std.proofs.lemmas.List.{length-map}
use Rattle.std.proofs.lemmas.List.Sums.{sum_by-cons}
use Rattle.std.proofs.lemmas.List.Elements.{All-map, All-head, All-tail}
use Rattle.plan_model.specs.declared.spec.SourceSpec.{SourceSpec}
use Rattle.plan_model.specs.declared.spec.FilterSpec.{FilterSpec}
use Rattle.plan_model.specs.PlanData.{PlanData, IsPlan}
use Rattle.json_parts.specs.Tests.{is_within}
use Rattle.key_groups.specs.declared.limits.TheConstants.{MOST_SUBTASKS}
use Rattle.layout_rules.specs.declared.limits.TheConstants.{MOST_CAPACITY, MOST_TASKS}
use Rattle.layout_rules.specs.declared.stage.FilterScale.{FilterScale}
use Rattle.layout_rules.specs.Scale.{IsParallelism, IsScale, IsCapacity}
use Rattle.layout_rules.specs.ScaleData.{ScaleData}
use Rattle.layout_rules.specs.Stages.{task_count}
use Rattle.layout_rules.specs.Rules.{stages_of}
use Rattle.plan_scale.specs.declared.text.OperatorText.{OperatorText}
use Rattle.plan_scale.specs.declared.text.ScaleText.{ScaleText}
use Rattle.plan_scale.specs.Said.{operator_under, parallelism_under, filter_under, scale_of, single_scale}
use Rattle.plan_scale.specs.Tasks as counted
use Rattle.plan_scale.specs.Tasks.{only_parallelism, chains_to, filter_tasks, IsSmall}
use Rattle.plan_scale.specs.Requirements.{has_parallelism, has_capacity, has_few_tasks}
use Rattle.plan_scale.proofs.Named.{found_passes}
use Rattle.plan_scale.proofs.TaskCount.{Fits, tasks_are}
use Rattle.layout_rules.proofs.Facts.{one_within}

is_one : (max : ℕ) → 1 ≤ max → is_within (pos 1) (pos (min MOST_SUBTASKS max)) (pos 1) ≡ true
is_one max some = grind (arith, ints)

above_zero : (max : ℕ) (z : ℤ) → is_within (pos 1) (pos (min MOST_SUBTASKS max)) z ≡ true → IsParallelism max (unsigned_abs z)
above_zero max (pos n) h = record { some = grind (arith, ints); few = grind (arith, ints); grouped = grind (arith, ints) }
above_zero max (negsuc n) h = absurd (grind (arith, ints))

capacity_within : (z : ℤ) → is_within (pos 1) (pos MOST_CAPACITY) z ≡ true → IsCapacity (unsigned_abs z)
capacity_within (pos n) h = record { some = grind (arith, ints); small = grind (arith, ints) }
capacity_within (negsuc n) h = absurd (grind (arith, ints))

under : (plan : PlanData) (text : ScaleText) → IsPlan plan → has_parallelism plan text ≡ true → (uid : List ℕ) → IsParallelism plan.max (parallelism_under uid text.operators)
unfolding has_parallelism
under plan text p met uid =
    above_zero plan.max (operator_under uid text.operators).parallelism (found_passes (λ (o : OperatorText). is_within (pos 1) (pos (min MOST_SUBTASKS plan.max)) o.parallelism) uid text.operators (is_one plan.max p.grouped) met)

-- the scale of a text whose parallelisms are met, but for its capacity and its tasks
pub record IsCounted (plan : PlanData) (c : ScaleData) : Type 0 where
  pub fits : Fits plan c
  pub sources : All (IsParallelism plan.max) c.sources
  pub filters : All (λ f. IsParallelism plan.max f.parallelism) c.filters
  pub window : IsParallelism plan.max c.window

within : (plan : PlanData) (text : ScaleText) → IsPlan plan → has_parallelism plan text ≡ true → IsCounted plan (scale_of plan text)
within plan text p met = record {
  fits = record { sources = length-map plan.sources (λ (s : SourceSpec). parallelism_under s.uid text.operators); filters = length-map plan.filters (λ (f : FilterSpec). filter_under f.uid text.operators) };
  sources = All-map (IsParallelism plan.max) (λ (s : SourceSpec). parallelism_under s.uid text.operators) plan.sources (λ k d h. under plan text p met _);
  filters = All-map (λ (f : FilterScale). IsParallelism plan.max f.parallelism) (λ (f : FilterSpec). filter_under f.uid text.operators) plan.filters (λ k d h. under plan text p met _);
  window = under plan text p met plan.window.uid;
}

sum_small : (max : ℕ) (ns : List ℕ) → All (IsParallelism max) ns → sum ns ≤ MOST_SUBTASKS * length ns
sum_small max [] h = omega arith
sum_small max (n ∷ ns) h =
    let first = All-head (IsParallelism max) n ns h in
    let rest = sum_small max ns (All-tail (IsParallelism max) n ns h) in
    let split : sum (n ∷ ns) ≡ n + sum ns = sum_by-cons (λ (x : ℕ). x) n ns in
    omega (arith, first.few, rest, split)

pub small : (plan : PlanData) (c : ScaleData) → IsPlan plan → IsCounted plan c → IsSmall c
small plan c p h = record {
  sources = (let bound = sum_small plan.max c.sources h.sources in omega (arith, bound, h.fits.sources, p.sources_few));
  filters_few = omega (arith, h.fits.filters, p.filters_few);
  filters = λ k d l. (h.filters k d l).few;
  window = h.window.few;
}

pub is_scale : (plan : PlanData) (text : ScaleText) → IsPlan plan → has_parallelism plan text ≡ true → has_capacity plan text ≡ true → has_few_tasks plan text ≡ true → IsScale plan (scale_of plan text)
unfolding has_capacity has_few_tasks
is_scale plan text p parallelism capacity few =
    let held = capacity_within text.ring capacity in
    let all = within plan text p parallelism in
    record {
      capacity = held;
      sources = all.fits.sources;
      filters = all.fits.filters;
      source_parallelisms = all.sources;
      filter_parallelisms = all.filters;
      window_parallelism = all.window;
      tasks_few = leb-true (task_count (stages_of plan (scale_of plan text))) MOST_TASKS few;
    }

-- the test of the tasks that are counted is that of the rules' tasks
pub counted_few : (plan : PlanData) (text : ScaleText) (c : ScaleData) (n : ℕ) → IsPlan plan → has_parallelism plan text ≡ true → c ≡ scale_of plan text → n ≡ counted.task_count c → nat_le n MOST_TASKS ≡ has_few_tasks plan text
unfolding has_few_tasks
counted_few plan text c n p parallelism is count =
    ap (λ (m : ℕ). nat_le m MOST_TASKS) (count ∙ ap counted.task_count is ∙ sym (tasks_are plan (scale_of plan text) p (within plan text p parallelism).fits))

pub counted_small : (plan : PlanData) (text : ScaleText) (c : ScaleData) → IsPlan plan → has_parallelism plan text ≡ true → c ≡ scale_of plan text → IsSmall c
counted_small plan text c p parallelism is = rw is (small plan (scale_of plan text) p (within plan text p parallelism))

ones_sum : {A : Type 0} (xs : List A) → sum (map (λ _. 1) xs) ≡ length xs
ones_sum [] = refl
ones_sum (x ∷ xs) =
    let ih = ones_sum xs in
    let split : sum (1 ∷ map (λ _. 1) xs) ≡ 1 + sum (map (λ _. 1) xs) = sum_by-cons (λ (x : ℕ). x) 1 (map (λ _. 1) xs) in
    omega (arith, ih, split)

chained_one : FilterScale
chained_one = record { parallelism = 1; chain = true }

none_open : {A : Type 0} (xs : List A) → filter_tasks (Some 1) (map (λ _. chained_one) xs) ≡ 0
unfolding chained_one
none_open [] = refl
none_open (x ∷ xs) = let rest = none_open xs in omega (arith, rest)

one_opens : {A : Type 0} (before : Option ℕ) (xs : List A) → filter_tasks before (map (λ _. chained_one) xs) ≤ 1
unfolding chained_one
one_opens before [] = omega arith
one_opens before (x ∷ xs) =
    let rest = none_open xs in
    elim (cases_Bool (chains_to before chained_one)) [
      | inl e ↦ rw e (omega (arith, rest))
      | inr e ↦ rw e (omega (arith, rest))
    ]

pub single_is_scale : (plan : PlanData) → IsPlan plan → IsScale plan (single_scale plan)
unfolding chained_one
single_is_scale plan p =
    let one = one_within plan.max p.grouped in
    let fits : Fits plan (single_scale plan) = record { sources = length-map plan.sources (λ (s : SourceSpec). 1); filters = length-map plan.filters (λ (f : FilterSpec). chained_one) } in
    let sources = ones_sum plan.sources in
    let filters = one_opens (only_parallelism (single_scale plan).sources) plan.filters in
    let few = p.sources_few in
    let count : counted.task_count (single_scale plan) ≤ MOST_TASKS = omega arith in
    record {
      capacity = record { some = omega arith; small = omega arith };
      sources = fits.sources;
      filters = fits.filters;
      source_parallelisms = All-map (IsParallelism plan.max) (λ (s : SourceSpec). 1) plan.sources (λ k d h. one);
      filter_parallelisms = All-map (λ (f : FilterScale). IsParallelism plan.max f.parallelism) (λ (f : FilterSpec). chained_one) plan.filters (λ k d h. one);
      window_parallelism = one;
      tasks_few = rw (tasks_are plan (single_scale plan) p fits) count;
    }
