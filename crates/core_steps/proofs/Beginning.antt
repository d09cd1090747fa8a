-- A new world.
use Rattle.std.proofs.Common.{◌≡◌, ℕ, List, [], ◌∷◌, false, map, reverse, length, refl, sym, ap, subst, ◌∙◌, inl, inr, arith}
use Rattle.std.proofs.lemmas.List.{get_or_past, length-map}
use Rattle.std.proofs.lemmas.Bool.{cases_lt}
use Rattle.dataflow_laws.specs.World.{Reached}
use Rattle.dataflow_laws.specs.World.Reached.{begins}
use Rattle.task_steps.specs.TaskData.{TaskData}
use Rattle.core_steps.specs.Given.{GivenData, layout_in, start_in}
use Rattle.core_steps.specs.Rings.{RingsData, AreNewRings}
use Rattle.core_steps.specs.World.{WorldData, state_at, world_in, IsSound, IsWorld}
use Rattle.core_steps.specs.Beginning.{AreNewTasks, IsNewWorld}
use Rattle.core_steps.proofs.States.{state_here}

abbrev pub new_world : GivenData → List TaskData → RingsData → WorldData
new_world g tasks rings = record { given = g; tasks = tasks; rings = rings; has_failed = false }

state_first : (g : GivenData) (tasks : List TaskData) → AreNewTasks g tasks → (t : ℕ) → state_at g tasks t ≡ start_in g t
state_first g tasks new t = elim (cases_lt t (length tasks)) [
  | inr past ↦ get_or_past (map (λ (d : TaskData). d.state) tasks) t (start_in g t) (let long = length-map tasks (λ (d : TaskData). d.state) in omega (arith, past, long))
  | inl l ↦ elim tasks as (λ ts. (tasks ≡ ts) → state_at g tasks t ≡ start_in g t) [
    | [] ↦ λ e. (let none = ap (λ (ts : List TaskData). length ts) e in absurd (omega (arith, l, none)))
    | d ∷ ds ↦ λ e. state_here g tasks t d l ∙ new.opening t d (let count = new.count in omega (arith, l, count))
  ] refl
]

pub opened : (g : GivenData) (tasks : List TaskData) (rings : RingsData) → AreNewTasks g tasks → AreNewRings g.layout.stages g.layout.capacity rings → world_in (new_world g tasks rings) ≡ record { tasks = start_in g; rings = λ s t. [] }
opened g tasks rings new empty = λ i. record { tasks = λ t. state_first g tasks new t i; rings = λ s t. reverse (empty.messages s t i) }

pub is_world : (g : GivenData) (tasks : List TaskData) (rings : RingsData) → IsSound g → AreNewTasks g tasks → AreNewRings g.layout.stages g.layout.capacity rings → IsWorld (new_world g tasks rings)
is_world g tasks rings sound new empty = record {
  sound = sound;
  built = record { count = new.count; placed = new.placed; going = λ fine. new.going; rings = empty.tasks; room = empty.room };
  reached = subst (Reached g.plan (layout_in g) g.layout.capacity (start_in g)) (sym (opened g tasks rings new empty)) begins;
}

pub is_new : (g : GivenData) (tasks : List TaskData) (rings : RingsData) → AreNewTasks g tasks → AreNewRings g.layout.stages g.layout.capacity rings → IsNewWorld g (new_world g tasks rings)
is_new g tasks rings new empty = record { given = refl; going = refl; opening = opened g tasks rings new empty }
