-- What crates above cite of stages and their tasks; the other files here are this crate's own.
use Rattle.std.proofs.Common.{◌≡◌, ℕ, zero, suc, ◌<◌, ◌≤◌, List, length, map, subst, sym, ap, ◌∙◌, arith}
use Rattle.plan_model.specs.PlanData.{PlanData, IsPlan}
use Rattle.layout_rules.specs.declared.limits.TheConstants.{MOST_TASKS}
use Rattle.layout_rules.specs.declared.stage.Stage.{Stage}
use Rattle.layout_rules.specs.Below.{sum_below}
use Rattle.layout_rules.specs.Stages.{stage_at, parallelism_at, leading_sources, source_stages, stage_of, subtask_of, task_count}
use Rattle.layout_rules.specs.Scale.{ScaleData, IsScale, IsParallelism}
use Rattle.layout_rules.specs.Rules.{in_order, stage_operators, bare_stage, stages_of}
use Rattle.layout_rules.specs.Laws.{StagesAreBounded}
use Rattle.layout_rules.proofs.Shapes.{shaped, parallelism_within}
pub use Rattle.layout_rules.proofs.Rows.{row_is, row_at}
pub use Rattle.layout_rules.proofs.Groups.{headed}
pub use Rattle.layout_rules.proofs.Counted.{tasks_counted}
pub use Rattle.layout_rules.proofs.Shapes.{compiled_is_layout, one_within}
pub use Rattle.layout_rules.proofs.Legs.{tasks_are_one_leg}
pub use Rattle.layout_rules.proofs.Outputs.{rings_by_group, tasks_have_outputs, sink_is_last}
pub use Rattle.layout_rules.proofs.Once.{compiled_once, compiled_ever}
use Rattle.layout_rules.proofs.Once.{made_length, made_operators}

-- rows that have numbers have at least as many as there are rows
rows_few : (f : ℕ → ℕ) (n : ℕ) → ((a : ℕ) → a < n → 0 < f a) → n ≤ sum_below f n
rows_few f zero h = omega arith
rows_few f (suc n) h = omega (arith, rows_few f n (λ a l. h a (omega (arith, l))), h n (omega arith))

pub stages_are_bounded : StagesAreBounded
stages_are_bounded p c ip sc =
    let h = compiled_ever p c in
    let ss = stages_of p c in
    let sh = shaped p c ss ip sc h in
    let within : (a : ℕ) → a < length ss → IsParallelism p.max (parallelism_at ss a) = λ a l. subst (λ n. IsParallelism p.max n) (sym (h.parallelism a l)) (parallelism_within p c ip.grouped sc (stage_at ss a).operators) in
    let all = rows_few (parallelism_at ss) (length ss) (λ a l. (within a l).some) in
    let leading = sh.all_sources in
    let before = sh.before in
    let size = sh.size in
    let few = sc.tasks_few in
    record { leading = leading; more = omega (arith, leading, before, size); few = omega (arith, all, few); tasks_few = few; parallelism = within }

-- a task is a subtask of its stage
pub record IsSubtask (stages : List Stage) (t : ℕ) : Type 0 where
  pub stage : stage_of stages t < length stages
  pub subtask : subtask_of stages t < parallelism_at stages (stage_of stages t)

pub is_subtask : (stages : List Stage) (t : ℕ) → t < task_count stages → IsSubtask stages t
is_subtask stages t l = let r = row_is (parallelism_at stages) (length stages) t l in record { stage = r.0; subtask = omega (arith, r.1, r.2) }

-- what is known of a plan's stages holds before they have edges, too
pub bare_stages_are_bounded : (p : PlanData) (c : ScaleData) → IsPlan p → IsScale p c
    → let bare = map (bare_stage c) (stage_operators p c (in_order p)) in (length p.sources ≡ source_stages bare) × (length p.sources < length bare) × (length bare ≤ MOST_TASKS)
bare_stages_are_bounded p c ip sc =
    let bare : List Stage = map (bare_stage c) (stage_operators p c (in_order p)) in
    let known = stages_are_bounded p c ip sc in
    let size = made_length bare in
    (sym known.leading ∙ ap leading_sources (made_operators bare), omega (arith, known.more, size), omega (arith, known.few, size))
