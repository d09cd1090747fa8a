-- The world in the abstract, once the state of one task has changed.
use Rattle.std.proofs.Common.{◌≡◌, ℕ, ◌<◌, ◌≤◌, List, length, map, get_or, set, sym, ap, subst, ◌∙◌, inl, inr, arith}
use Rattle.std.proofs.lemmas.List.{map-set, get_or-map, get_or-set_same, get_or-set_other, length-map}
use Rattle.std.proofs.lemmas.Bool.{cases_eq, eq-eqb, ne_eqb}
use Rattle.plan_model.specs.PlanData.{PlanData}
use Rattle.dataflow_model.specs.AbstractLayout.{AbstractLayout}
use Rattle.dataflow_model.specs.State.{State}
use Rattle.dataflow_model.specs.Steps.{Event}
use Rattle.dataflow_laws.specs.Needs.{Needs}
use Rattle.dataflow_laws.specs.World as flow
use Rattle.dataflow_laws.specs.World.{with_task, Move}
use Rattle.dataflow_laws.specs.World.Move.{inner, takes, puts}
use Rattle.dataflow_laws.proofs.Facts.{step_needs}
use Rattle.task_steps.specs.TaskData.{TaskData}
use Rattle.core_steps.specs.Given.{GivenData, start_in}
use Rattle.core_steps.specs.World.{state_at}

pub state_here : (g : GivenData) (ts : List TaskData) (t : ℕ) (d : TaskData) → t < length ts → state_at g ts t ≡ (get_or ts t d).state
state_here g ts t d l = get_or-map (λ (x : TaskData). x.state) ts t d (start_in g t) l

pub state_set : (g : GivenData) (ts : List TaskData) (t : ℕ) (d : TaskData) → t < length ts → (u : ℕ) → state_at g (set ts t d) u ≡ with_task t d.state (state_at g ts) u
state_set g ts t d l u =
    let states : List State = map (λ (x : TaskData). x.state) ts in
    let long : t < length states = omega (arith, l, length-map ts (λ (x : TaskData). x.state)) in
    ap (λ xs. get_or xs u (start_in g u)) (map-set (λ (x : TaskData). x.state) ts t d)
    ∙ elim (cases_eq u t) [
      | inl e ↦ (let b = eq-eqb u t e in rw b (subst (λ v. get_or (set states t d.state) v (start_in g v) ≡ d.state) (sym e) (get_or-set_same states t d.state (start_in g t) long)))
      | inr ne ↦ (let b = ne_eqb u t ne in rw b (get_or-set_other states t u d.state (start_in g u) ne))
    ]

pub move_task : (p : PlanData) (l : AbstractLayout) (capacity : ℕ) (w : flow.World) (t : ℕ) (e : Event) (next : flow.World) → Move p l capacity w t e next → t ≤ l.sink
move_task p l capacity w t e next (inner b i st) = b
move_task p l capacity w t e next (takes b rest q st) = b
move_task p l capacity w t e next (puts b lim jl st) = b

-- what the move of a task needs of it
pub move_needs : (p : PlanData) (l : AbstractLayout) (capacity : ℕ) (w : flow.World) (t : ℕ) (e : Event) (next : flow.World) → Move p l capacity w t e next → Needs p (l.task t) (w.tasks t) e
move_needs p l capacity w t e next (inner {s = s} b i st) = step_needs p (l.task t) (w.tasks t) e s st
move_needs p l capacity w t e next (takes {s = s} b rest q st) = step_needs p (l.task t) (w.tasks t) e s st
move_needs p l capacity w t e next (puts {s = s} b lim jl st) = step_needs p (l.task t) (w.tasks t) e s st
