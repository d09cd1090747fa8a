-- How many rings lead out of a task.
use Rattle.std.proofs.Common.{◌≡◌, ℕ, suc, ◌<◌, ◌≤◌, List, true, ◌&&◌, eqb, ltb, length, Some, None, [], ap, ◌∙◌, inl, inr, arith}
use Rattle.std.proofs.lemmas.Bool.{cases_lt, eqb-true, ltb-true, eq-eqb, lt-ltb, and_parts, and_from}
use Rattle.std.proofs.lemmas.List.{get_or_past}
use Rattle.plain_data.specs.Times.{lowest}
use Rattle.plan_model.specs.PlanData.{PlanData, IsPlan}
use Rattle.dataflow_model.specs.declared.message.Message.TheVariants.{End}
use Rattle.dataflow_model.specs.Leg.{ToEnd, leg_of}
use Rattle.layout_rules.specs.declared.stage.Edge.TheVariants.{ByGroup}
use Rattle.layout_rules.specs.declared.stage.Stage.{Stage}
use Rattle.layout_rules.specs.Below.{sum_below}
use Rattle.layout_rules.specs.Stages.{stage_from, stage_at, parallelism_at, role_of, next_stage, task_count, stage_of, subtask_of, task_stage, connects, is_ring}
use Rattle.layout_rules.specs.Rules.{IsCompiled, window_of}
use Rattle.layout_rules.specs.Scale.{ScaleData, IsScale}
use Rattle.layout_rules.specs.Layouts.{Entries}
use Rattle.layout_rules.specs.Laws.{RingsByGroup, TasksHaveOutputs}
use Rattle.layout_rules.proofs.LayoutLaws.{is_false, row, rung, has_out}
use Rattle.layout_rules.proofs.Rows.{first_up, row_is, row_one, length_those, select, count_none, count_all}
use Rattle.layout_rules.proofs.Shapes.{shaped}

-- a ring leads to a task of the next stage
leads : (stages : List Stage) (t u : ℕ) → is_ring stages t u ≡ true → (u < task_count stages) × (stage_of stages u ≡ next_stage stages (stage_of stages t))
leads stages t u h =
    let a = and_parts (ltb u (task_count stages)) (eqb (stage_of stages u) (next_stage stages (stage_of stages t)) && connects (task_stage stages t).edge (subtask_of stages t) (subtask_of stages u)) h in
    let b = and_parts (eqb (stage_of stages u) (next_stage stages (stage_of stages t))) (connects (task_stage stages t).edge (subtask_of stages t) (subtask_of stages u)) a.1 in
    (ltb-true u (task_count stages) a.0, eqb-true (stage_of stages u) (next_stage stages (stage_of stages t)) b.0)

-- and by group one leads to each
joins : (stages : List Stage) (t u : ℕ) → (task_stage stages t).edge ≡ Some ByGroup → u < task_count stages → stage_of stages u ≡ next_stage stages (stage_of stages t) → is_ring stages t u ≡ true
joins stages t u e l q =
    and_from (ltb u (task_count stages)) (eqb (stage_of stages u) (next_stage stages (stage_of stages t)) && connects (task_stage stages t).edge (subtask_of stages t) (subtask_of stages u)) (lt-ltb u (task_count stages) l)
    (and_from (eqb (stage_of stages u) (next_stage stages (stage_of stages t))) (connects (task_stage stages t).edge (subtask_of stages t) (subtask_of stages u)) (eq-eqb (stage_of stages u) (next_stage stages (stage_of stages t)) q)
    (ap (λ o. connects o (subtask_of stages t) (subtask_of stages u)) e))

pub rings_by_group : RingsByGroup
rings_by_group stages t e =
    let f = parallelism_at stages in
    let n = length stages in
    let b = next_stage stages (stage_of stages t) in
    let test = is_ring stages t in
    let row = λ (u : ℕ) (h : test u ≡ true). row_is f n u (leads stages t u h).0 in
    length_those test (task_count stages) ∙ elim (cases_lt b n) [
      | inl l ↦ (
          let up = first_up f (suc b) n l in
          let none = count_none test 0 (sum_below f b) (omega arith) (λ u _ m. is_false (test u) (λ h. (let r = (row u h).1 in let q = ap (sum_below f) (leads stages t u h).1 in omega (arith, r, q, m)))) in
          let all = count_all test (sum_below f b) (sum_below f (suc b)) (omega arith) (λ u a m. (
          let l' : u < task_count stages = omega (arith, m, up) in
          let r = row_is f n u l' in
          joins stages t u e l' (row_one f (stage_of stages u) b u r.1 r.2 a m))) in
          let after = count_none test (sum_below f (suc b)) (task_count stages) up (λ u a _. is_false (test u) (λ h. (let r = (row u h).2 in let q = ap (λ x. sum_below f (suc x)) (leads stages t u h).1 in omega (arith, r, q, a)))) in
          omega (arith, none, all, after))
      | inr l ↦ (
          let none = count_none test 0 (task_count stages) (omega arith) (λ u _ _. is_false (test u) (λ h. (let r = (row u h).0 in let q = (leads stages t u h).1 in omega (arith, r, q, l)))) in
          let past = ap (λ (s : Stage). s.parallelism) (get_or_past stages b (stage_from 0 [] None) l) in
          omega (arith, none, past))
    ]

-- an input and a leg of nothing, where only rings are asked for
no_entries : Entries
no_entries = record { entry = λ _ _ _. End; brings = λ _ _ _. lowest; watermark = λ _ _ _. lowest; size = λ _ _. 0 }

pub tasks_have_outputs : TasksHaveOutputs
tasks_have_outputs p c stages t sound scaled compiled l other =
    let w = window_of stages in
    let leg = leg_of 0 [] ToEnd no_entries.size in
    let shape = shaped p c stages sound scaled compiled in
    let r = row p no_entries leg stages w shape t l in
    let early : stage_of stages t ≤ w = elim (cases_lt (stage_of stages t) (suc w)) [
      | inl m ↦ omega (arith, m)
      | inr m ↦ absurd (other (ap (λ a. role_of (stage_at stages a).operators) (omega (arith, m, r.0)) ∙ shape.sink))
    ] in
    let out = has_out p no_entries leg stages w shape t l early in
    let at = select (is_ring stages t) (task_count stages) out.0 (rung p no_entries leg stages w shape t out.0 out.1).0 out.1 in
    omega (arith, at.0, length_those (is_ring stages t) (task_count stages))

-- the sink is the last task
pub sink_is_last : (p : PlanData) (c : ScaleData) (stages : List Stage) → IsPlan p → IsScale p c → IsCompiled p c stages → task_count stages ≡ suc (sum_below (parallelism_at stages) (suc (window_of stages)))
sink_is_last p c stages sound scaled compiled =
    let shape = shaped p c stages sound scaled compiled in
    ap (sum_below (parallelism_at stages)) shape.size ∙ (let o = shape.one in omega (arith, o))
