-- How many rings and partitions a task has: few.
use Rattle.std.proofs.Common.{◌≡◌, ℕ, zero, suc, ◌≤◌, Bool, true, false, List, [], ◌∷◌, length, map, inl, inr, length-append, arith}
use Rattle.std.specs.Prelude.{slice_index, if◌then◌else◌}
use Rattle.std.specs.List.{All}
use Rattle.std.proofs.lemmas.Bool.{cases_Bool}
use Rattle.plan_model.specs.declared.limits.TheConstants.{MOST_PARTITIONS}
use Rattle.plan_model.specs.declared.spec.SourceSpec.{SourceSpec}
use Rattle.plan_model.specs.PlanData.{PlanData, IsPlan}
use Rattle.dataflow_model.specs.Role.{is_source}
use Rattle.layout_rules.specs.declared.limits.TheConstants.{MOST_TASKS}
use Rattle.layout_rules.specs.declared.stage.Stage.{Stage}
use Rattle.layout_rules.specs.Below.{filter_below}
use Rattle.layout_rules.specs.Stages.{task_count, task_role, is_ring, inputs_of, outputs_of, belongs, partitions_at, partitions_of}
use Rattle.layout_rules.specs.Layouts.{partition_counts}

-- of the numbers below n at most n pass a test
pub few_pass : (test : ℕ → Bool) (n : ℕ) → length (filter_below test n) ≤ n
few_pass test zero = omega arith
few_pass test (suc n) =
    elim (cases_Bool (test n)) [
      | inl e ↦ rw e (omega (arith, length-append (filter_below test n) (n ∷ []), few_pass test n))
      | inr e ↦ rw e (omega (arith, length-append (filter_below test n) [], few_pass test n))
    ]

pub few_inputs : (stages : List Stage) (t : ℕ) → task_count stages ≤ MOST_TASKS → length (inputs_of stages t) ≤ MOST_TASKS
few_inputs stages t l = let h = few_pass (λ s. is_ring stages s t) (task_count stages) in omega (arith, h, l)

pub few_outputs : (stages : List Stage) (t : ℕ) → task_count stages ≤ MOST_TASKS → length (outputs_of stages t) ≤ MOST_TASKS
few_outputs stages t l = let h = few_pass (is_ring stages t) (task_count stages) in omega (arith, h, l)

few_counts : (sources : List SourceSpec) (x : ℕ) → All (λ s. s.partitions ≤ MOST_PARTITIONS) sources → slice_index (map (λ s. s.partitions) sources) x ≤ MOST_PARTITIONS
few_counts [] x h = omega arith
few_counts (s ∷ ss) zero h = h 0 s (omega arith)
few_counts (s ∷ ss) (suc x) h = few_counts ss x (λ k d l. h (suc k) d (omega (arith, l)))

dealt_few : (b : Bool) (xs : List ℕ) (n : ℕ) → length xs ≤ n → length (if b then xs else []) ≤ n
dealt_few true xs n l = l
dealt_few false xs n l = omega arith

pub few_partitions : (p : PlanData) (counts : List ℕ) (stages : List Stage) (t : ℕ) → counts ≡ partition_counts p → IsPlan p → length (partitions_of counts stages t) ≤ MOST_PARTITIONS
few_partitions p counts stages t e ip =
    let few : partitions_at (partition_counts p) stages t ≤ MOST_PARTITIONS = few_counts p.sources _ ip.partitions_few in
    let h = few_pass (belongs stages t) (partitions_at (partition_counts p) stages t) in
    rw e (dealt_few (is_source (task_role stages t)) (filter_below (belongs stages t) (partitions_at (partition_counts p) stages t)) MOST_PARTITIONS (omega (arith, h, few)))
