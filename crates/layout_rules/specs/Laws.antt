-- The laws of compiled layouts.
use Rattle.std.specs.Prelude.{◌≡◌, ℕ, ◌+◌, ◌<◌, ◌≤◌, slice_index, List, [], ◌∷◌, ◌++◌, if◌then◌else◌, length, sum, Some}
use Rattle.std.specs.List.{AllByRecursion}
use Rattle.plan_model.specs.PlanData.{PlanData, IsPlan}
use Rattle.dataflow_model.specs.declared.role.Role.TheVariants.{Source, Sink}
use Rattle.dataflow_model.specs.Leg.{Leg, Until, TillAsked, count_at, until_at, leg_of}
use Rattle.dataflow_model.specs.State.{State}
use Rattle.dataflow_model.specs.OneLeg.{IsOneLeg}
use Rattle.dataflow_model.specs.AbstractLayout.{IsLayout, Deals}
use Rattle.layout_rules.specs.declared.stage.Operator.{Operator}
use Rattle.layout_rules.specs.declared.stage.Edge.TheVariants.{ByGroup}
use Rattle.layout_rules.specs.declared.stage.Stage.{Stage}
use Rattle.layout_rules.specs.Below.{sum_below}
use Rattle.layout_rules.specs.Stages.{parallelism_at, next_stage, stage_of, task_stage, task_role, task_count, outputs_of}
use Rattle.layout_rules.specs.Rules.{is_chained, stage_operators_from, stage_operators, IsCompiled, window_of, stages_of, tasks_opened_by, last_of, onto_last, HasParallelism}
use Rattle.layout_rules.specs.Scale.{ScaleData, IsScale, AreStages}
use Rattle.layout_rules.specs.Layouts.{Entries, abstract_task, abstract_layout, abstract_input}

-- a compiled layout has the laws of a layout, and deals each partition to one place of one task
abbrev pub CompiledIsLayout : Type 0
CompiledIsLayout = (p : PlanData) (c : ScaleData) (e : Entries) (leg : Leg) (stages : List Stage) → IsPlan p → IsScale p c → IsCompiled p c stages
    → IsLayout (abstract_layout p e leg stages (window_of stages)) × Deals (abstract_input p e) leg (abstract_layout p e leg stages (window_of stages))

-- a plan has one list of stages at a scale
abbrev pub CompiledOnce : Type 0
CompiledOnce = (p : PlanData) (c : ScaleData) (stages stages' : List Stage) → IsCompiled p c stages → IsCompiled p c stages' → stages ≡ stages'

-- and it has one
abbrev pub CompiledEver : Type 0
CompiledEver = (p : PlanData) (c : ScaleData) → IsCompiled p c (stages_of p c)

-- one more operator joins the last stage or opens one
abbrev pub OneMore : Type 0
OneMore = (p : PlanData) (c : ScaleData) (o o' : Operator) (os : List Operator)
    → stage_operators_from p c o (os ++ o' ∷ []) ≡ (if is_chained p c (last_of o os) o' then onto_last o' (stage_operators_from p c o os) else (stage_operators_from p c o os ++ (o' ∷ []) ∷ []))

-- all operators of a stage have its parallelism
abbrev pub StagesAlike : Type 0
StagesAlike = (p : PlanData) (c : ScaleData) (os : List Operator) → AllByRecursion (HasParallelism c) (stage_operators p c os)

-- how many tasks there are: those of the sources, of each filter that opens a stage, of the window, and the sink's
abbrev pub TasksCounted : Type 0
TasksCounted = (p : PlanData) (c : ScaleData) → IsPlan p → length c.sources ≡ length p.sources
    → task_count (stages_of p c) ≡ sum c.sources + sum_below (tasks_opened_by p c) (length p.filters) + c.window + 1

-- what is known of a plan's stages
abbrev pub StagesAreBounded : Type 0
StagesAreBounded = (p : PlanData) (c : ScaleData) → IsPlan p → IsScale p c → AreStages p.max (length p.sources) (stages_of p c)

-- where a stage's edge leads by key group, each of its tasks has a ring to each task of the next stage
abbrev pub RingsByGroup : Type 0
RingsByGroup = (stages : List Stage) (t : ℕ) → (task_stage stages t).edge ≡ Some ByGroup → length (outputs_of stages t) ≡ parallelism_at stages (next_stage stages (stage_of stages t))

-- each task but the sink has a ring out
abbrev pub TasksHaveOutputs : Type 0
TasksHaveOutputs = (p : PlanData) (c : ScaleData) (stages : List Stage) (t : ℕ) → IsPlan p → IsScale p c → IsCompiled p c stages → t < task_count stages → (task_role stages t ≡ Sink → ⊥) → 0 < length (outputs_of stages t)

-- cuts that follow one another from a start to an end: each counts at least as many entries of each partition as the
-- one before
abbrev pub AreRising : (ℕ → ℕ → ℕ) → List (List (List ℕ)) → (ℕ → ℕ → ℕ) → Type 0
AreRising start [] end = (x q : ℕ) → start x q ≤ end x q
AreRising start (cut ∷ cuts) end = ((x q : ℕ) → start x q ≤ count_at cut x q) × AreRising (count_at cut) cuts end

-- where a leg may begin, save and end, over partitions of these sizes; one that may be asked to stop has no savepoints
-- on the way
pub record IsRoute (begin : List (List ℕ)) (saves : List (List (List ℕ))) (until : Until) (size : ℕ → ℕ → ℕ) : Type 0 where
  pub rising : AreRising (count_at begin) saves (until_at size until)
  pub within : (x q : ℕ) → until_at size until x q ≤ size x q
  pub asked : until ≡ TillAsked → saves ≡ []

-- the tasks of a layout in such a leg are the tasks of one leg, where sources begin at its start
abbrev pub TasksAreOneLeg : Type 0
TasksAreOneLeg = (p : PlanData) (e : Entries) (stages : List Stage) (w n : ℕ) (begin : List (List ℕ)) (saves : List (List (List ℕ))) (until : Until) (start : ℕ → State) → IsRoute begin saves until e.size
    → ((t q : ℕ) → t < (abstract_layout p e (leg_of n saves until e.size) stages w).before → (abstract_task p e (leg_of n saves until e.size) stages t).role ≡ Source → q < (abstract_task p e (leg_of n saves until e.size) stages t).inputs
    → slice_index (start t).offsets q ≡ count_at begin (abstract_task p e (leg_of n saves until e.size) stages t).source ((abstract_task p e (leg_of n saves until e.size) stages t).partition q))
    → IsOneLeg (abstract_layout p e (leg_of n saves until e.size) stages w) start
