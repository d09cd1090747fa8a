-- A move leaves alone what no ring of it touches.
use Rattle.std.proofs.Common.{◌≡◌, ℕ, ◌<◌, ◌==◌, List, ◌∷◌, Bool, true, false, length, refl, sym, subst, ◌∙◌, if◌then◌else◌}
use Rattle.std.proofs.lemmas.Bool.{ne_eqb}
use Rattle.plan_model.specs.PlanData.{PlanData}
use Rattle.dataflow_model.specs.declared.message.Message.{Message}
use Rattle.dataflow_model.specs.AbstractLayout.{AbstractLayout}
use Rattle.dataflow_model.specs.State.{State}
use Rattle.dataflow_model.specs.Steps.{Event, Open, Read, Save, Stop, Close, Take, Put, LocalStep}
use Rattle.dataflow_laws.specs.World.{World, with_task, with_ring, Move}
use Rattle.dataflow_laws.specs.World.Move.{inner, takes, puts}
use Rattle.leg_runs.specs.Choosing.{IsSameFor}

-- the task at the other end of the ring that an event touches
abbrev pub IsOtherEnd : AbstractLayout → ℕ → Event → ℕ → Type 0
IsOtherEnd l t Open u = ⊥
IsOtherEnd l t (Read n) u = ⊥
IsOtherEnd l t Save u = ⊥
IsOtherEnd l t Stop u = ⊥
IsOtherEnd l t Close u = ⊥
IsOtherEnd l t (Take i m) u = u ≡ l.from t i
IsOtherEnd l t (Put j m) u = u ≡ l.to t j

-- what can be done by a task that is the same in another world can be done there
pub same_move : (p : PlanData) (l : AbstractLayout) (capacity : ℕ) (w v : World) (t : ℕ) (e : Event) (next : World) → IsSameFor t w v → Move p l capacity w t e next → (there : World) × Move p l capacity v t e there
same_move p l capacity w v t e next same (inner {s = s} b i st) = (record v { tasks = with_task t s v.tasks }, inner b i (subst (λ x. LocalStep p (l.task t) x e s) (sym same.task) st))
same_move p l capacity w v t e next same (takes {i = i} {m = m} {s = s} b rest q st) =
    (record { tasks = with_task t s v.tasks; rings = with_ring (l.from t i) t rest v.rings }, takes b rest (same.into (l.from t i) ∙ q) (subst (λ x. LocalStep p (l.task t) x (Take i m) s) (sym same.task) st))
same_move p l capacity w v t e next same (puts {j = j} {m = m} {s = s} b lim jl st) = (
  record { tasks = with_task t s v.tasks; rings = with_ring t (l.to t j) (m ∷ v.rings t (l.to t j)) v.rings },
  puts b (subst (λ x. length x < capacity) (sym (same.out (l.to t j))) lim) jl (subst (λ x. LocalStep p (l.task t) x (Put j m) s) (sym same.task) st),
)

-- a task stays where another one changes, and a ring where one of its ends is no end of the one that changes
task_stays : (t u : ℕ) (s : State) (tasks : ℕ → State) → (u ≡ t → ⊥) → with_task t s tasks u ≡ tasks u
task_stays t u s tasks ne = (let b = ne_eqb u t ne in rw b refl)

out_stays : (x y u z : ℕ) (log : List Message) (rings : ℕ → ℕ → List Message) → (u ≡ x → ⊥) → with_ring x y log rings u z ≡ rings u z
out_stays x y u z log rings ne = (let b = ne_eqb u x ne in rw b refl)

into_stays : (x y u z : ℕ) (log : List Message) (rings : ℕ → ℕ → List Message) → (u ≡ y → ⊥) → with_ring x y log rings z u ≡ rings z u
into_stays x y u z log rings ne = (let b = ne_eqb u y ne in rw b (one_way (z == x) (rings z u)))
  where
    one_way : (b : Bool) (log : List Message) → (if b then log else log) ≡ log
    one_way true log = refl
    one_way false log = refl

pub leaves : (p : PlanData) (l : AbstractLayout) (capacity : ℕ) (w : World) (t : ℕ) (e : Event) (next : World) → Move p l capacity w t e next → (u : ℕ) → (u ≡ t → ⊥) → (IsOtherEnd l t e u → ⊥) → IsSameFor u w next
leaves p l capacity w t e next (inner {s = s} b i st) u ne other = record { task = task_stays t u s w.tasks ne; out = λ x. refl; into = λ x. refl }
leaves p l capacity w t e next (takes {i = i} {m = m} {s = s} b rest q st) u ne other = record {
  task = task_stays t u s w.tasks ne;
  out = λ x. out_stays (l.from t i) t u x rest w.rings other;
  into = λ x. into_stays (l.from t i) t u x rest w.rings ne;
}
leaves p l capacity w t e next (puts {j = j} {m = m} {s = s} b lim jl st) u ne other = record {
  task = task_stays t u s w.tasks ne;
  out = λ x. out_stays t (l.to t j) u x (m ∷ w.rings t (l.to t j)) w.rings ne;
  into = λ x. into_stays t (l.to t j) u x (m ∷ w.rings t (l.to t j)) w.rings other;
}
