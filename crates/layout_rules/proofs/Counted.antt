-- How many tasks a layout has.
use Rattle.std.proofs.Common.{◌≡◌, ℕ, zero, suc, ◌+◌, ◌-◌, ◌<◌, List, [], ◌∷◌, if◌then◌else◌, length, map, sum, get_or, refl, sym, ap, ◌∙◌, inl, inr, arith}
use Rattle.std.proofs.lemmas.Bool.{cases_Bool}
use Rattle.std.proofs.lemmas.List.Sums.{sum_by-cons}
use Rattle.plan_model.specs.PlanData.{PlanData}
use Rattle.layout_rules.specs.declared.stage.Operator.{Operator}
use Rattle.layout_rules.specs.declared.stage.Operator.TheVariants.{Source, Window, Sink}
use Rattle.layout_rules.specs.declared.stage.Stage.{Stage}
use Rattle.layout_rules.specs.Below.{sum_below}
use Rattle.layout_rules.specs.Stages.{stage_at, parallelism_at, task_count}
use Rattle.layout_rules.specs.Rules.{sources_from, filters_from, parallelism_of, is_chained, onto_first, stage_operators_from, stage_operators, stage_parallelism, stages_of, before_filter, tasks_opened_by}
use Rattle.layout_rules.specs.Scale.{ScaleData}
use Rattle.layout_rules.specs.Laws.{TasksCounted}
use Rattle.layout_rules.proofs.Groups.{headed}
use Rattle.layout_rules.proofs.Once.{compiled_ever}

-- the rows' sizes from the front on
first_front : (f : ℕ → ℕ) (n : ℕ) → sum_below f (suc n) ≡ f 0 + sum_below (λ a. f (suc a)) n
first_front f zero = omega arith
first_front f (suc n) = omega (arith, first_front f n)

first_sum : (xs : List ℕ) (d : ℕ) → sum_below (λ x. get_or xs x d) (length xs) ≡ sum xs
first_sum [] d = refl
first_sum (x ∷ xs) d = first_front (λ a. get_or (x ∷ xs) a d) (length xs) ∙ ap (λ n. x + n) (first_sum xs d) ∙ sym (sum_by-cons (λ y. y) x xs)

-- the tasks of stages, stage by stage
abbrev wide : ScaleData → List (List Operator) → ℕ
wide c [] = 0
wide c (g ∷ gs) = stage_parallelism c g + wide c gs

tasks_sum : (c : ScaleData) (ss : List Stage) → ((a : ℕ) → a < length ss → parallelism_at ss a ≡ stage_parallelism c (stage_at ss a).operators) → task_count ss ≡ wide c (map (λ s. s.operators) ss)
tasks_sum c [] h = refl
tasks_sum c (s ∷ ss) h =
    let z : s.parallelism ≡ stage_parallelism c s.operators = h 0 (omega arith) in
    let ih = tasks_sum c ss (λ a l. h (suc a) (omega (arith, l))) in
    first_front (parallelism_at (s ∷ ss)) (length ss) ∙ omega (arith, z, ih)

-- how many tasks open with the operators after o
abbrev opened_after : PlanData → ScaleData → Operator → List Operator → ℕ
opened_after p c o [] = 0
opened_after p c o (o' ∷ os) = (if is_chained p c o o' then 0 else parallelism_of c o') + opened_after p c o' os

module _ (p : PlanData) (c : ScaleData) where
  groups_sum : (o : Operator) (os : List Operator) → wide c (stage_operators_from p c o os) ≡ parallelism_of c o + opened_after p c o os
  groups_sum o [] = omega arith
  groups_sum o (o' ∷ os) =
      let h = headed p c o' os in
      let ih = groups_sum o' os in
      elim (cases_Bool (is_chained p c o o')) [
        | inl e ↦ rw e (
            let a : wide c (stage_operators_from p c o' os) ≡ parallelism_of c o' + wide c h.1 = ap (wide c) h.2 in
            let b : wide c (onto_first o (stage_operators_from p c o' os)) ≡ parallelism_of c o + wide c h.1 = ap (λ g. wide c (onto_first o g)) h.2 in
            omega (arith, a, b, ih))
        | inr e ↦ rw e (ap (λ n. parallelism_of c o + n) ih)
      ]

  abbrev of_source : ℕ → ℕ
  of_source x = parallelism_of c (Source x)

  sources_open : (n k : ℕ) (os : List Operator) → sum_below of_source (suc k) + opened_after p c (Source k) (sources_from (suc k) n os) ≡ sum_below of_source (suc k + n) + opened_after p c (Source (k + n)) os
  sources_open zero k os =
      let a : suc k ≡ suc k + 0 = omega arith in
      let b : k ≡ k + 0 = omega arith in
      ap (λ m. sum_below of_source m + opened_after p c (Source k) os) a ∙ ap (λ m. sum_below of_source (suc k + 0) + opened_after p c (Source m) os) b
  sources_open (suc n) k os =
      let ih = sources_open n (suc k) os in
      let a : suc (suc k) + n ≡ suc k + suc n = omega arith in
      let b : suc k + n ≡ k + suc n = omega arith in
      let z : sum_below of_source (suc k) + opened_after p c (Source k) (sources_from (suc k) (suc n) os) ≡ sum_below of_source (suc (suc k)) + opened_after p c (Source (suc k)) (sources_from (suc (suc k)) n os) = omega arith in
      z ∙ ih ∙ ap (λ m. sum_below of_source m + opened_after p c (Source (suc k + n)) os) a ∙ ap (λ m. sum_below of_source (suc k + suc n) + opened_after p c (Source m) os) b

  filters_open : (m k : ℕ) → sum_below (tasks_opened_by p c) k + opened_after p c (before_filter p k) (filters_from k m (Window ∷ Sink ∷ [])) ≡ sum_below (tasks_opened_by p c) (k + m) + (c.window + 1)
  filters_open zero k = let a : k ≡ k + 0 = omega arith in ap (λ n. sum_below (tasks_opened_by p c) n + (c.window + 1)) a
  filters_open (suc m) k =
      let ih = filters_open m (suc k) in
      let a : suc k + m ≡ k + suc m = omega arith in
      let z : sum_below (tasks_opened_by p c) k + opened_after p c (before_filter p k) (filters_from k (suc m) (Window ∷ Sink ∷ [])) ≡ sum_below (tasks_opened_by p c) (suc k) + opened_after p c (before_filter p (suc k)) (filters_from (suc k) m (Window ∷ Sink ∷ [])) = omega arith in
      z ∙ ih ∙ ap (λ n. sum_below (tasks_opened_by p c) n + (c.window + 1)) a

  all_open : (n : ℕ) → 0 < n → (os : List Operator) → wide c (stage_operators p c (sources_from 0 n os)) ≡ sum_below of_source n + opened_after p c (Source (n - 1)) os
  all_open zero l os = absurd (omega arith)
  all_open (suc n) l os =
      let a : suc 0 + n ≡ suc n = omega arith in
      let b : 0 + n ≡ suc n - 1 = omega arith in
      groups_sum (Source 0) (sources_from 1 n os)
      ∙ (let z : of_source 0 + opened_after p c (Source 0) (sources_from 1 n os) ≡ sum_below of_source (suc 0) + opened_after p c (Source 0) (sources_from 1 n os) = omega arith in z)
      ∙ sources_open n 0 os
      ∙ ap (λ m. sum_below of_source m + opened_after p c (Source (0 + n)) os) a
      ∙ ap (λ m. sum_below of_source (suc n) + opened_after p c (Source m) os) b

pub tasks_counted : TasksCounted
tasks_counted p c ip e =
    let h = compiled_ever p c in
    let some = ip.sourced in
    let os = filters_from 0 (length p.filters) (Window ∷ Sink ∷ []) in
    let f = filters_open p c (length p.filters) 0 in
    let s : sum_below (of_source p c) (length p.sources) ≡ sum c.sources = ap (sum_below (of_source p c)) (sym e) ∙ first_sum c.sources 1 in
    let z : 0 + length p.filters ≡ length p.filters = omega arith in
    let g : opened_after p c (Source (length p.sources - 1)) os ≡ sum_below (tasks_opened_by p c) (length p.filters) + (c.window + 1) = (let y = ap (sum_below (tasks_opened_by p c)) z in omega (arith, f, y)) in
    tasks_sum c (stages_of p c) h.parallelism ∙ ap (wide c) h.operators ∙ all_open p c (length p.sources) (omega (arith, some)) os ∙ omega (arith, s, g)
