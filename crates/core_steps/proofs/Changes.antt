-- The world in the abstract, once a ring has changed.
use Rattle.std.proofs.Common.{◌≡◌, ℕ, ◌<◌, Bool, true, false, List, reverse, length, refl, sym, ap, ◌∙◌, inl, inr}
use Rattle.std.specs.Prelude.{◌==◌, if◌then◌else◌}
use Rattle.std.proofs.lemmas.Bool.{cases_eq, eq-eqb, ne_eqb}
use Rattle.dataflow_model.specs.declared.message.Message.{Message}
use Rattle.dataflow_laws.specs.World as flow
use Rattle.dataflow_laws.specs.World.{with_task, with_ring}
use Rattle.task_steps.specs.TaskData.{TaskData}
use Rattle.core_steps.specs.Queues.{Queue}
use Rattle.core_steps.specs.Rings.{RingsData, queue_at, ChangesQueue}
use Rattle.core_steps.specs.World.{WorldData, state_at, held, world_in}
use Rattle.core_steps.proofs.States.{state_set}
use Rattle.core_steps.proofs.Worlds.{after, HaveRoom}

newest_first : (b c : Bool) (q r : Queue) → reverse (if b then (if c then q else r) else r).messages ≡ (if b then (if c then reverse q.messages else reverse r.messages) else reverse r.messages)
newest_first true true q r = refl
newest_first true false q r = refl
newest_first false c q r = refl

pub held_changes : (old new : RingsData) (s t : ℕ) (q : Queue) → ChangesQueue s t q old new → (x y : ℕ) → held new x y ≡ with_ring s t (reverse q.messages) (held old) x y
held_changes old new s t q ch x y = ap (λ (v : Queue). reverse v.messages) (ch.queues x y) ∙ newest_first (x == s) (y == t) q (queue_at old x y)

pub room_stays : (old new : RingsData) (s t : ℕ) (q : Queue) → ChangesQueue s t q old new → q.room ≡ (queue_at old s t).room → HaveRoom old new
room_stays old new s t q ch room = record {
  tasks = ch.tasks;
  room = λ x y. ap (λ (v : Queue). v.room) (ch.queues x y) ∙ elim (cases_eq x s) [
    | inr ne ↦ (let b = ne_eqb x s ne in rw b refl)
    | inl e ↦ elim (cases_eq y t) [
      | inr ne ↦ (let b = eq-eqb x s e in let c = ne_eqb y t ne in rw (b, c) refl)
      | inl f ↦ (let b = eq-eqb x s e in let c = eq-eqb y t f in rw (b, c) (room ∙ (λ i. (queue_at old (sym e i) (sym f i)).room)))
    ]
  ];
}

-- a task and a ring have changed
pub world_changes : (w : WorldData) (t : ℕ) (d : TaskData) (rings : RingsData) (f : Bool) (s u : ℕ) (q : Queue) (log : List Message) → t < length w.tasks → ChangesQueue s u q w.rings rings → reverse q.messages ≡ log
    → ◌≡◌ {A = flow.World} (record { tasks = with_task t d.state (state_at w.given w.tasks); rings = with_ring s u log (held w.rings) }) (world_in (after w t d rings f))
world_changes w t d rings f s u q log l ch is = λ i. (record {
  tasks = λ x. sym (state_set w.given w.tasks t d l x) i;
  rings = λ x y. (ap (λ v. with_ring s u v (held w.rings) x y) (sym is) ∙ sym (held_changes w.rings rings s u q ch x y)) i;
})
