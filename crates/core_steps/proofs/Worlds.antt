-- What a world comes to once one of its tasks has answered.
use Rattle.std.proofs.Common.{◌≡◌, ℕ, ◌<◌, ◌≤◌, Bool, true, false, List, length, get_or, set, refl, sym, ap, subst, ◌∙◌, inl, inr, arith}
use Rattle.std.specs.Prelude.{Result, Ok, Err}
use Rattle.std.proofs.lemmas.List.{length-set, get_or-set_same, get_or-set_other, set-get_or}
use Rattle.std.proofs.lemmas.Bool.{cases_eq}
use Rattle.plan_model.specs.PlanData.{PlanData}
use Rattle.stream_model.specs.InputData.{InputData}
use Rattle.dataflow_model.specs.AbstractTask.{AbstractTask}
use Rattle.dataflow_model.specs.State.{State}
use Rattle.dataflow_model.specs.Steps.{Event}
use Rattle.dataflow_laws.specs.declared.step.Step.{Step}
use Rattle.layout_rules.specs.Stages.{task_count}
use Rattle.dataflow_laws.specs.World as flow
use Rattle.dataflow_laws.specs.World.{Move, Reached}
use Rattle.dataflow_laws.specs.World.Reached.{moves}
use Rattle.dataflow_laws.proofs.Facts.{worlds_are_histories}
use Rattle.task_steps.specs.declared.fault.StepFault.{StepFault}
use Rattle.task_steps.specs.declared.fault.StepFault.TheVariants.{NotEnabled, Memory}
use Rattle.task_steps.specs.TaskData.{TaskData}
use Rattle.task_steps.specs.Answers.{HasFailed, GoesOn}
use Rattle.task_steps.proofs.Facts.{stands_still}
use Rattle.core_steps.specs.Given.{layout_in, start_in}
use Rattle.core_steps.specs.Rings.{RingsData, queue_at}
use Rattle.core_steps.specs.World.{WorldData, world_in, state_at, IsPlaced, IsBuilt, IsEnd, IsWorld}
use Rattle.core_steps.specs.Answers.{LeadsTo, StepAnswers, IsLeftAfter}
use Rattle.core_steps.proofs.States.{state_here}

-- what a step answered, and that the world is one
pub record Goes (step : Step) (old new : WorldData) (r : Result (Unit {0}) StepFault) : Type 0 where
  pub answers : StepAnswers step old new r
  pub world : IsWorld new

-- task t is d now, and the rings are these
abbrev pub after : WorldData → ℕ → TaskData → RingsData → Bool → WorldData
after w t d rings failed = record w { tasks = set w.tasks t d; rings = rings; has_failed = failed }

-- rings of which none has more or less room
pub record HaveRoom (old new : RingsData) : Type 0 where
  pub tasks : new.tasks ≡ old.tasks
  pub room : (s t : ℕ) → (queue_at new s t).room ≡ (queue_at old s t).room

pub same_room : (r : RingsData) → HaveRoom r r
same_room r = record { tasks = refl; room = λ s t. refl }

-- a place depends on what a task was told alone
pub placed_as : (p : PlanData) (i : InputData) (k : AbstractTask) (d : TaskData) (s : State) (f : Bool) → IsPlaced p i k d → IsPlaced p i k (record d { state = s; has_failed = f })
placed_as p i k d s f h = record {
  stands = stands_still p k d s f h.stands;
  reads = h.reads;
  has = h.has;
  columns = h.columns;
  time = h.time;
}

-- what holds of the new task and of each other one holds of each
each_set : (P : ℕ → TaskData → Type 0) (ts : List TaskData) (n t : ℕ) (d : TaskData) → length ts ≡ n → t < n → P t d → ((u : ℕ) (x : TaskData) → u < n → P u (get_or ts u x)) → (u : ℕ) (x : TaskData) → u < n → P u (get_or (set ts t d) u x)
each_set P ts n t d long l here others u x k = elim (cases_eq u t) [
  | inl e ↦ subst (λ v. P v (get_or (set ts t d) v x)) (sym e) (subst (P t) (sym (get_or-set_same ts t d x (omega (arith, long, l)))) here)
  | inr ne ↦ subst (P u) (sym (get_or-set_other ts t u d x ne)) (others u x k)
]

pub placed_at : (w : WorldData) (t : ℕ) (d : TaskData) → IsWorld w → t < length w.tasks → d ≡ get_or w.tasks t d → IsPlaced w.given.plan w.given.input ((layout_in w.given).task t) d
placed_at w t d h l is = subst (IsPlaced w.given.plan w.given.input ((layout_in w.given).task t)) (sym is) (h.built.placed t d (omega (arith, l, h.built.count)))

pub going_at : (w : WorldData) (t : ℕ) (d : TaskData) → IsWorld w → w.has_failed ≡ false → t < length w.tasks → d ≡ get_or w.tasks t d → d.has_failed ≡ false
going_at w t d h fine l is = ap (λ (x : TaskData). x.has_failed) is ∙ h.built.going fine t d (omega (arith, l, h.built.count))

pub state_of : (w : WorldData) (t : ℕ) (d : TaskData) → t < length w.tasks → d ≡ get_or w.tasks t d → d.state ≡ state_at w.given w.tasks t
state_of w t d l is = ap (λ (x : TaskData). x.state) is ∙ sym (state_here w.given w.tasks t d l)

pub within : (w : WorldData) (t : ℕ) → IsWorld w → t < length w.tasks → t ≤ (layout_in w.given).sink
within w t h l = omega (arith, l, h.built.count, h.sound.count)

pub inside : (w : WorldData) (t : ℕ) → IsWorld w → t ≤ (layout_in w.given).sink → t < length w.tasks
inside w t h l = omega (arith, l, h.built.count, h.sound.count)

pub reached_now : (w : WorldData) → IsWorld w → w.has_failed ≡ false → Reached w.given.plan (layout_in w.given) w.given.layout.capacity (start_in w.given) (world_in w)
reached_now w h fine = subst (λ b. IsEnd b w) fine h.reached

-- a world that has not failed is the end of a history
pub history_of : (w : WorldData) → IsWorld w → w.has_failed ≡ false → flow.IsEnd w.given.plan (layout_in w.given) (start_in w.given) (world_in w)
history_of w world fine = worlds_are_histories w.given.plan (layout_in w.given) w.given.layout.capacity (start_in w.given) (world_in w) world.sound.layout (reached_now w world fine)

built : (w : WorldData) (t : ℕ) (d : TaskData) (rings : RingsData) (f : Bool) → IsBuilt w → t < length w.tasks → IsPlaced w.given.plan w.given.input ((layout_in w.given).task t) d → HaveRoom w.rings rings
    → (f ≡ false → d.has_failed ≡ false) → w.has_failed ≡ false → IsBuilt (after w t d rings f)
built w t d rings f b l placed same fine fine_before =
    let inside : t < task_count w.given.layout.stages = omega (arith, l, b.count) in
    record {
      count = length-set w.tasks t d ∙ b.count;
      placed = each_set (λ u x. IsPlaced w.given.plan w.given.input ((layout_in w.given).task u) x) w.tasks _ t d b.count inside placed b.placed;
      going = λ ok. each_set (λ u x. x.has_failed ≡ false) w.tasks _ t d b.count inside (fine ok) (b.going fine_before);
      rings = same.tasks ∙ b.rings;
      room = λ s j sl jl. subst (λ n. w.given.layout.capacity ≤ n) (sym (same.room s _)) (b.room s j sl jl);
    }

-- nothing has changed, and there is no such move
pub goes_same : (step : Step) (w new : WorldData) → IsWorld w → w.has_failed ≡ false → new ≡ w → ((next : flow.World) → LeadsTo w step next → ⊥) → Goes step w new (Err NotEnabled)
goes_same step w new h fine same none = subst (λ v. Goes step w v (Err NotEnabled)) (sym same) (record { answers = (fine, refl, none); world = h })

-- a task written back as it was
pub same_after : (w : WorldData) (t : ℕ) (d d' : TaskData) → w.has_failed ≡ false → d ≡ get_or w.tasks t d → d' ≡ d → after w t d' w.rings false ≡ w
same_after w t d d' fine is same =
    let kept : set w.tasks t d' ≡ w.tasks = ap (set w.tasks t) (same ∙ is) ∙ set-get_or w.tasks t d in
    λ i. record w { tasks = kept i; has_failed = sym fine i }

-- the move is made
pub goes_made : (step : Step) (w : WorldData) (t : ℕ) (d d' : TaskData) (rings : RingsData) (e : Event) (x : Unit {0}) → IsWorld w → w.has_failed ≡ false → t < length w.tasks → d ≡ get_or w.tasks t d → GoesOn d d' → HaveRoom w.rings rings
    → LeadsTo w step (world_in (after w t d' rings false))
    → Move w.given.plan (layout_in w.given) w.given.layout.capacity (world_in w) t e (world_in (after w t d' rings false))
    → Goes step w (after w t d' rings false) (Ok x)
goes_made step w t d d' rings e x h fine l is on same leads move =
    let placed = subst (IsPlaced w.given.plan w.given.input ((layout_in w.given).task t)) (sym on.is) (placed_as w.given.plan w.given.input ((layout_in w.given).task t) d d'.state d.has_failed (placed_at w t d h l is)) in
    record {
      answers = (fine, refl, refl, leads);
      world = record {
        sound = h.sound;
        built = built w t d' rings false h.built l placed same (λ f. ap (λ (y : TaskData). y.has_failed) on.is ∙ going_at w t d h fine l is) fine;
        reached = moves (reached_now w h fine) move;
      };
    }

-- memory was refused for it
pub goes_failed : (step : Step) (w : WorldData) (t : ℕ) (d d' : TaskData) (rings : RingsData) (e : Event) → IsWorld w → w.has_failed ≡ false → t < length w.tasks → d ≡ get_or w.tasks t d → HasFailed e d d' → HaveRoom w.rings rings
    → (next : flow.World) → LeadsTo w step next → IsLeftAfter step (world_in w) (after w t d' rings true)
    → Goes step w (after w t d' rings true) (Err Memory)
goes_failed step w t d d' rings e h fine l is failed same next leads left =
    let placed = subst (IsPlaced w.given.plan w.given.input ((layout_in w.given).task t)) (sym failed.is) (placed_as w.given.plan w.given.input ((layout_in w.given).task t) d (record d.state { windows = failed.windows }) true (placed_at w t d h l is)) in
    record {
      answers = (fine, refl, refl, (next, leads), left);
      world = record {
        sound = h.sound;
        built = built w t d' rings true h.built l placed same (λ f. (absurd cc)) fine;
        reached = (world_in w, reached_now w h fine, left.left);
      };
    }
