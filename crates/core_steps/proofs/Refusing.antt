-- Where there is no move on a ring.
use Rattle.std.proofs.Common.{◌≡◌, ℕ, ◌<◌, ◌≤◌, Bool, true, false, List, [], ◌∷◌, ◌++◌, length, get_or, refl, sym, ap, subst, ◌∙◌, arith}
use Rattle.std.specs.Prelude.{slice_index, if◌then◌else◌}
use Rattle.std.proofs.lemmas.List.{length-reverse, length-append}
use Rattle.plan_model.specs.PlanData.{PlanData}
use Rattle.dataflow_model.specs.declared.message.Message.{Message}
use Rattle.dataflow_model.specs.Role.{is_source}
use Rattle.dataflow_model.specs.AbstractTask.{AbstractTask}
use Rattle.dataflow_model.specs.AbstractLayout.{AbstractLayout}
use Rattle.dataflow_model.specs.Steps.{Event, Open, Read, Save, Stop, Close, Take, Put, CanTake}
use Rattle.dataflow_laws.specs.declared.step.Step.TheVariants as step
use Rattle.dataflow_laws.specs.World as flow
use Rattle.dataflow_laws.specs.World.{IsInner, Move}
use Rattle.dataflow_laws.specs.World.Move.{inner, takes, puts}
use Rattle.layout_rules.specs.Stages.{inputs_of, outputs_of}
use Rattle.task_steps.specs.TaskData.{TaskData, Stands}
use Rattle.task_steps.specs.Puts.{IsFirst}
use Rattle.task_steps.specs.Taking.{IsReady}
use Rattle.core_steps.specs.Given.{layout_in}
use Rattle.core_steps.specs.Rings.{queue_at}
use Rattle.core_steps.specs.World.{WorldData, world_in, IsWorld}
use Rattle.core_steps.specs.Answers.{LeadsTo}
use Rattle.core_steps.specs.RingSteps.{IsPuttable}
use Rattle.core_steps.proofs.States.{move_needs}
use Rattle.core_steps.proofs.Worlds.{state_of, placed_at}
use Rattle.core_steps.proofs.Putting.{put_needs}

-- what taking needs of the ring
abbrev HasOldest : AbstractLayout → flow.World → ℕ → Event → Type 0
HasOldest l w t Open = Unit {0}
HasOldest l w t (Read n) = Unit {0}
HasOldest l w t Save = Unit {0}
HasOldest l w t Stop = Unit {0}
HasOldest l w t Close = Unit {0}
HasOldest l w t (Take i m) = (rest : List Message) × (w.rings (l.from t i) t ≡ rest ++ m ∷ [])
HasOldest l w t (Put j m) = Unit {0}

oldest_inner : (l : AbstractLayout) (w : flow.World) (t : ℕ) (e : Event) → IsInner e → HasOldest l w t e
oldest_inner l w t Open i = tt
oldest_inner l w t (Read n) i = tt
oldest_inner l w t Save i = tt
oldest_inner l w t Stop i = tt
oldest_inner l w t Close i = tt
oldest_inner l w t (Take x m) i = absurd i
oldest_inner l w t (Put x m) i = absurd i

oldest_of : (p : PlanData) (l : AbstractLayout) (capacity : ℕ) (w : flow.World) (t : ℕ) (e : Event) (next : flow.World) → Move p l capacity w t e next → HasOldest l w t e
oldest_of p l capacity w t e next (inner b i st) = oldest_inner l w t e i
oldest_of p l capacity w t e next (takes b rest q st) = (rest, q)
oldest_of p l capacity w t e next (puts b lim jl st) = tt

-- a take needs that the task can take, and a message on the ring
pub record TakeNeeds (w : WorldData) (t i : ℕ) (d : TaskData) : Type 0 where
  pub ready : IsReady d i
  pub there : i < length (inputs_of w.given.layout.stages t)
  pub some : 0 < length (queue_at w.rings (slice_index (inputs_of w.given.layout.stages t) i) t).messages

is_ready : (p : PlanData) (k : AbstractTask) (d : TaskData) (i : ℕ) → Stands p k d → CanTake k d.state i → IsReady d i
is_ready p k d i st can = record { taker = ap is_source st.role ∙ can.taker; idle = can.idle; input = subst (λ n. i < n) (sym st.inputs) can.input; free = can.free }

chosen : (b : Bool) (x y : ℕ) → b ≡ false → (if b then x else y) ≡ y
chosen true x y e = absurd cc
chosen false x y e = refl

pub take_needs : (w : WorldData) (t i : ℕ) (d : TaskData) (next : flow.World) → IsWorld w → t < length w.tasks → d ≡ get_or w.tasks t d → LeadsTo w (step.Take t i) next → TakeNeeds w t i d
take_needs w t i d next h l is leads =
    let m = leads.is.0 in
    let k = (layout_in w.given).task t in
    let move = subst (λ e. Move w.given.plan (layout_in w.given) w.given.layout.capacity (world_in w) t e next) leads.is.1 leads.move in
    let needs = move_needs w.given.plan (layout_in w.given) w.given.layout.capacity (world_in w) t (Take i m) next move in
    let oldest = oldest_of w.given.plan (layout_in w.given) w.given.layout.capacity (world_in w) t (Take i m) next move in
    let can : CanTake k d.state i = subst (λ s. CanTake k s i) (sym (state_of w t d l is)) needs.can in
    let long = ap (λ (ms : List Message). length ms) oldest.1 ∙ length-append oldest.0 (m ∷ []) in
    let same = length-reverse (queue_at w.rings (slice_index (inputs_of w.given.layout.stages t) i) t).messages in
    record {
      ready = is_ready w.given.plan k d i (placed_at w t d h l is).stands can;
      there = subst (λ n. i < n) (chosen (is_source k.role) _ _ can.taker) can.input;
      some = omega (arith, long, same);
    }

-- outputs lead to tasks
pub receiver_there : (w : WorldData) (t j : ℕ) → IsWorld w → j < length (outputs_of w.given.layout.stages t) → slice_index (outputs_of w.given.layout.stages t) j < w.rings.tasks
receiver_there w t j h l = let o = h.sound.layout.output t j l in omega (arith, o.2, h.sound.count, h.built.rings)

-- nothing is pending, or its output is not there, or its ring is full
pub no_put : (w old : WorldData) (t : ℕ) (d : TaskData) → t < length w.tasks → d ≡ get_or w.tasks t d → w ≡ old
    → ((j : ℕ) → IsFirst j d.state.pending → j < length (outputs_of w.given.layout.stages t) → length (queue_at w.rings t (slice_index (outputs_of w.given.layout.stages t) j)).messages < w.given.layout.capacity → ⊥)
    → (next : flow.World) → LeadsTo old (step.Put t) next → ⊥
no_put w old t d l is same none next leads =
    let n = put_needs w t d next l is (subst (λ v. LeadsTo v (step.Put t) next) (sym same) leads) in
    none n.0 (subst (IsFirst n.0) (sym n.3) refl) n.4 n.5

pub no_take : (w old : WorldData) (t i : ℕ) (d : TaskData) → IsWorld w → t < length w.tasks → d ≡ get_or w.tasks t d → w ≡ old → (TakeNeeds w t i d → ⊥) → (next : flow.World) → LeadsTo old (step.Take t i) next → ⊥
no_take w old t i d h l is same none next leads = none (take_needs w t i d next h l is (subst (λ v. LeadsTo v (step.Take t i) next) (sym same) leads))

-- two outputs of one first message are one
pub one_first : (j i : ℕ) (ps : List (ℕ × Message)) → IsFirst j ps → IsFirst i ps → j ≡ i
one_first j i [] a b = absurd a
one_first j i (x ∷ xs) a b = a ∙ sym b

pub receiver_in : (w : WorldData) (t u : ℕ) → IsWorld w → IsPuttable w t u → u < w.rings.tasks
receiver_in w t u h can = subst (λ v. v < w.rings.tasks) (sym can.is) (receiver_there w t can.output h can.there)

-- the ring has room
pub room_there : (w : WorldData) (t u : ℕ) → IsWorld w → IsPuttable w t u → length (queue_at w.rings t u).messages < (queue_at w.rings t u).room
room_there w t u h can =
    let room = subst (λ v. w.given.layout.capacity ≤ (queue_at w.rings t v).room) (sym can.is) (h.built.room t can.output (omega (arith, can.task, h.built.count)) can.there) in
    omega (arith, room, can.room)

-- a task that can put has something pending
pub not_idle : (w : WorldData) (t u : ℕ) (d : TaskData) → IsPuttable w t u → d ≡ get_or w.tasks t d → d.state.pending ≡ [] → ⊥
not_idle w t u d can is none = subst (IsFirst can.output) (ap (λ (v : TaskData). v.state.pending) (sym is) ∙ none) (can.first d)
