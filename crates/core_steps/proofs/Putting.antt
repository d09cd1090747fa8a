-- A message put on its ring.
use Rattle.std.proofs.Common.{◌≡◌, ℕ, ◌<◌, false, List, [], ◌∷◌, length, get_or, set, refl, sym, ap, subst, ◌∙◌}
use Rattle.std.specs.Prelude.{Ok, slice_index}
use Rattle.std.proofs.lemmas.List.{reverse-append, length-reverse}
use Rattle.plan_model.specs.PlanData.{PlanData}
use Rattle.dataflow_model.specs.declared.message.Message.{Message}
use Rattle.dataflow_model.specs.AbstractLayout.{AbstractLayout}
use Rattle.dataflow_model.specs.State.{State}
use Rattle.dataflow_model.specs.Steps.{Event, Open, Read, Save, Stop, Close, Take, Put, LocalStep}
use Rattle.dataflow_model.specs.Steps.LocalStep.{put}
use Rattle.dataflow_laws.specs.declared.step.Step.TheVariants as step
use Rattle.dataflow_laws.specs.World as flow
use Rattle.dataflow_laws.specs.World.{IsInner, Move}
use Rattle.dataflow_laws.specs.World.Move.{inner, takes, puts}
use Rattle.layout_rules.specs.Stages.{outputs_of}
use Rattle.task_steps.specs.TaskData.{TaskData}
use Rattle.task_steps.specs.Puts.{IsFirst, Puts}
use Rattle.task_steps.specs.Answers.{GoesOn}
use Rattle.core_steps.specs.Given.{layout_in}
use Rattle.core_steps.specs.Queues.{with_message}
use Rattle.core_steps.specs.Rings.{RingsData, queue_at, ChangesQueue}
use Rattle.core_steps.specs.World.{WorldData, world_in, state_at, held, IsWorld}
use Rattle.core_steps.specs.Answers.{LeadsTo}
use Rattle.core_steps.specs.RingSteps.{IsPuttable}
use Rattle.core_steps.proofs.States.{move_needs}
use Rattle.core_steps.proofs.Worlds.{Goes, after, state_of, within, goes_made}
use Rattle.core_steps.proofs.Changes.{room_stays, world_changes}

-- what putting needs of the ring
abbrev HasRoom : AbstractLayout → ℕ → flow.World → ℕ → Event → Type 0
HasRoom l capacity w t Open = Unit {0}
HasRoom l capacity w t (Read n) = Unit {0}
HasRoom l capacity w t Save = Unit {0}
HasRoom l capacity w t Stop = Unit {0}
HasRoom l capacity w t Close = Unit {0}
HasRoom l capacity w t (Take i m) = Unit {0}
HasRoom l capacity w t (Put j m) = (j < (l.task t).outputs) × (length (w.rings t (l.to t j)) < capacity)

room_inner : (l : AbstractLayout) (capacity : ℕ) (w : flow.World) (t : ℕ) (e : Event) → IsInner e → HasRoom l capacity w t e
room_inner l capacity w t Open i = tt
room_inner l capacity w t (Read n) i = tt
room_inner l capacity w t Save i = tt
room_inner l capacity w t Stop i = tt
room_inner l capacity w t Close i = tt
room_inner l capacity w t (Take x m) i = absurd i
room_inner l capacity w t (Put x m) i = absurd i

room_for : (p : PlanData) (l : AbstractLayout) (capacity : ℕ) (w : flow.World) (t : ℕ) (e : Event) (next : flow.World) → Move p l capacity w t e next → HasRoom l capacity w t e
room_for p l capacity w t e next (inner b i st) = room_inner l capacity w t e i
room_for p l capacity w t e next (takes b rest q st) = tt
room_for p l capacity w t e next (puts b lim jl st) = (jl, lim)

pub first_is : (j : ℕ) (ps rest : List (ℕ × Message)) (x : ℕ × Message) → IsFirst j ps → ps ≡ x ∷ rest → j ≡ x.0
first_is j [] rest x first is = absurd first
first_is j (y ∷ ys) rest x first is = let same : y ≡ x = cc in first ∙ ap (λ (v : ℕ × Message). v.0) same

-- a put is for the output of the first pending message, and needs room there
pub put_needs : (w : WorldData) (t : ℕ) (d : TaskData) (next : flow.World) → t < length w.tasks → d ≡ get_or w.tasks t d → LeadsTo w (step.Put t) next
    → (j : ℕ) × (m : Message) × (rest : List (ℕ × Message)) × (d.state.pending ≡ (j, m) ∷ rest) × (j < length (outputs_of w.given.layout.stages t))
    × (length (queue_at w.rings t (slice_index (outputs_of w.given.layout.stages t) j)).messages < w.given.layout.capacity)
put_needs w t d next l is leads =
    let j = leads.is.0 in
    let m = leads.is.1 in
    let move = subst (λ e. Move w.given.plan (layout_in w.given) w.given.layout.capacity (world_in w) t e next) leads.is.2 leads.move in
    let needs = move_needs w.given.plan (layout_in w.given) w.given.layout.capacity (world_in w) t (Put j m) next move in
    let room = room_for w.given.plan (layout_in w.given) w.given.layout.capacity (world_in w) t (Put j m) next move in
    let small = length-reverse (queue_at w.rings t (slice_index (outputs_of w.given.layout.stages t) j)).messages in
    (j, m, needs.0, ap (λ (s : State). s.pending) (state_of w t d l is) ∙ needs.1, room.0, subst (λ n. n < w.given.layout.capacity) small room.1)

pub put_goes : (w : WorldData) (t u j : ℕ) (m : Message) (d d' : TaskData) (rings : RingsData) (x : Unit {0}) → IsWorld w → w.has_failed ≡ false → IsPuttable w t u → d ≡ get_or w.tasks t d → Puts j m d d'
    → ChangesQueue t u (with_message (queue_at w.rings t u) m) w.rings rings → Goes (step.Put t) w (record w { tasks = set w.tasks t d'; rings = rings }) (Ok x)
put_goes w t u j m d d' rings x h fine can is p ch0 =
    let k = (layout_in w.given).task t in
    let to = slice_index (outputs_of w.given.layout.stages t) can.output in
    let output : can.output ≡ j = first_is can.output d.state.pending d'.state.pending (j, m) (subst (λ (v : TaskData). IsFirst can.output v.state.pending) (sym is) (can.first d)) p.first in
    let made : record d.state { pending = d'.state.pending } ≡ d'.state = sym (ap (λ (v : TaskData). v.state) p.is) in
    let ch = subst (λ v. ChangesQueue t v (with_message (queue_at w.rings t v) m) w.rings rings) can.is ch0 in
    let st : LocalStep w.given.plan k (state_at w.given w.tasks t) (Put can.output m) d'.state =
    subst (λ s. LocalStep w.given.plan k s (Put can.output m) d'.state) (state_of w t d can.task is)
    (subst (LocalStep w.given.plan k d.state (Put can.output m)) made (subst (λ v. LocalStep w.given.plan k d.state (Put v m) (record d.state { pending = d'.state.pending })) (sym output) (put p.first))) in
    let room : length (held w.rings t to) < w.given.layout.capacity = subst (λ n. n < w.given.layout.capacity) (sym (length-reverse (queue_at w.rings t to).messages)) (subst (λ v. length (queue_at w.rings t v).messages < w.given.layout.capacity) can.is can.room) in
    let same = world_changes w t d' rings false t to (with_message (queue_at w.rings t to) m) (m ∷ held w.rings t to) can.task ch (reverse-append (queue_at w.rings t to).messages (m ∷ [])) in
    let move = subst (λ v. Move w.given.plan (layout_in w.given) w.given.layout.capacity (world_in w) t (Put can.output m) v) same (puts (within w t h can.task) room can.there st) in
    let on : GoesOn d d' = record { is = p.is ∙ ap (λ s. record d { state = s }) made } in
    subst (λ f. Goes (step.Put t) w (after w t d' rings f) (Ok x)) (sym fine)
    (goes_made (step.Put t) w t d d' rings (Put can.output m) x h fine can.task is on (room_stays w.rings rings t to _ ch refl) (record { event = Put can.output m; is = (can.output, m, refl); move = move }) move)
