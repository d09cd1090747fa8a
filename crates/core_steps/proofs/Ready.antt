-- Steps on rings that can be made, and what is left to do.
use Rattle.std.proofs.Common.{◌≡◌, ℕ, ◌+◌, ◌<◌, Bool, false, List, [], ◌∷◌, length, get_or, refl, sym, ap, subst, ◌∙◌, inl, inr, arith}
use Rattle.std.specs.Prelude.{slice_index, ◌↔◌, IsTrue, Option, Some, None, is_some, MatchOption}
use Rattle.std.proofs.lemmas.List.{get_or_default, length-reverse}
use Rattle.std.proofs.lemmas.Bool.{cases_lt, false≢true}
use Rattle.dataflow_model.specs.declared.message.Message.{Message}
use Rattle.dataflow_model.specs.State.{State}
use Rattle.dataflow_model.specs.Steps.{Event, Open, Read, Save, Stop, Close, Take, Put, LocalStep, IsDone}
use Rattle.dataflow_model.specs.Steps.LocalStep.{put}
use Rattle.dataflow_laws.specs.declared.step.Step.{Step}
use Rattle.dataflow_laws.specs.declared.step.Step.TheVariants as asked
use Rattle.dataflow_laws.specs.World as flow
use Rattle.dataflow_laws.specs.World.{Move}
use Rattle.dataflow_laws.specs.World.Move.{puts}
use Rattle.dataflow_laws.specs.Progress.{IsFinished}
use Rattle.dataflow_laws.proofs.Facts.{worlds_are_histories, progress}
use Rattle.layout_rules.specs.Stages.{outputs_of}
use Rattle.task_steps.specs.TaskData.{TaskData}
use Rattle.task_steps.specs.Puts.{IsFirst}
use Rattle.core_steps.specs.Given.{layout_in, start_in}
use Rattle.core_steps.specs.Rings.{queue_at}
use Rattle.core_steps.specs.World.{WorldData, world_in, state_at, held, IsWorld}
use Rattle.core_steps.specs.Answers.{LeadsTo, CanMake}
use Rattle.core_steps.specs.RingSteps.{IsPuttable, IsTakeable}
use Rattle.core_steps.proofs.Worlds.{state_of, within, inside, reached_now}
use Rattle.core_steps.proofs.Taking.{take_is_made}

-- an element that is there
some_at : {X : Type 0} (xs : List X) (t : ℕ) → t < length xs → (x : X) × (x ≡ get_or xs t x)
some_at [] t l = absurd (omega arith)
some_at (y ∷ ys) t l = (get_or (y ∷ ys) t y, get_or_default (y ∷ ys) t y (get_or (y ∷ ys) t y) l)

first_of_some : (ms : List Message) → 0 < length ms → (m : Message) × (rest : List Message) × (ms ≡ m ∷ rest)
first_of_some [] l = absurd (omega arith)
first_of_some (m ∷ ms) l = (m, ms, refl)

first_pending : (j : ℕ) (ps : List (ℕ × Message)) → IsFirst j ps → (m : Message) × (rest : List (ℕ × Message)) × (ps ≡ (j, m) ∷ rest)
first_pending j [] first = absurd first
first_pending j (p ∷ ps) first = (p.1, ps, (λ i. (sym first i, p.1) ∷ ps))

pub takes_now : (w : WorldData) (t i s : ℕ) → IsWorld w → w.has_failed ≡ false → IsTakeable w t i s → CanMake w (asked.Take t i)
takes_now w t i s h fine can =
    let d = some_at w.tasks t can.task in
    let m = first_of_some (queue_at w.rings s t).messages can.some in
    take_is_made w t i s m.0 m.1 d.0 h fine can m.2 d.1

pub puts_now : (w : WorldData) (t u : ℕ) → IsWorld w → IsPuttable w t u → CanMake w (asked.Put t)
puts_now w t u h can =
    let k = (layout_in w.given).task t in
    let j = can.output in
    let d = some_at w.tasks t can.task in
    let first = subst (λ (v : TaskData). IsFirst j v.state.pending) (sym d.1) (can.first d.0) in
    let p = first_pending j d.0.state.pending first in
    let st : LocalStep w.given.plan k (state_at w.given w.tasks t) (Put j p.0) (record (state_at w.given w.tasks t) { pending = p.1 }) = put (ap (λ (s : State). s.pending) (sym (state_of w t d.0 can.task d.1)) ∙ p.2) in
    let to = slice_index (outputs_of w.given.layout.stages t) j in
    let room : length (held w.rings t to) < w.given.layout.capacity = subst (λ n. n < w.given.layout.capacity) (sym (length-reverse (queue_at w.rings t to).messages)) (subst (λ v. length (queue_at w.rings t v).messages < w.given.layout.capacity) can.is can.room) in
    (_, record { event = Put j p.0; is = (j, p.0, refl); move = puts (within w t h can.task) room can.there st })

-- all tasks are done just where each in the list is
pub finished : (w old : WorldData) → IsWorld w → w ≡ old → ((t : ℕ) (d : TaskData) → t < length w.tasks → IsDone (get_or w.tasks t d).state) → IsFinished (layout_in old.given) (world_in old)
finished w old h same all = subst (λ v. IsFinished (layout_in v.given) (world_in v)) same
    (λ t l. (let here = inside w t h l in let d = some_at w.tasks t here in subst IsDone (ap (λ (v : TaskData). v.state) (sym d.1) ∙ state_of w t d.0 here d.1) (all t d.0 here)))

pub unfinished : (w old : WorldData) (t : ℕ) (d : TaskData) → IsWorld w → w ≡ old → t < length w.tasks → d ≡ get_or w.tasks t d → (IsDone d.state → ⊥) → IsFinished (layout_in old.given) (world_in old) → ⊥
unfinished w old t d h same l is going all =
    let done = subst (λ v. IsFinished (layout_in v.given) (world_in v)) (sym same) all in
    going (subst IsDone (sym (state_of w t d l is)) (done t (within w t h l)))

-- a move is asked for by a step
step_of : (w : WorldData) (t : ℕ) (e : Event) (next : flow.World) → Move w.given.plan (layout_in w.given) w.given.layout.capacity (world_in w) t e next → (step : Step) × CanMake w step
step_of w t Open next move = (asked.Open t, (next, record { event = Open; is = refl; move = move }))
step_of w t (Read q) next move = (asked.Read t q, (next, record { event = Read q; is = refl; move = move }))
step_of w t Save next move = (asked.Save t, (next, record { event = Save; is = refl; move = move }))
step_of w t Stop next move = (asked.Stop t, (next, record { event = Stop; is = refl; move = move }))
step_of w t Close next move = (asked.Close t, (next, record { event = Close; is = refl; move = move }))
step_of w t (Take i m) next move = (asked.Take t i, (next, record { event = Take i m; is = (m, refl); move = move }))
step_of w t (Put j m) next move = (asked.Put t, (next, record { event = Put j m; is = (j, m, refl); move = move }))

-- a world that has not failed and is not finished has a step
pub goes_on : (w : WorldData) → IsWorld w → w.has_failed ≡ false → (IsFinished (layout_in w.given) (world_in w) → ⊥) → (step : Step) × CanMake w step
goes_on w h fine going =
    let history = worlds_are_histories w.given.plan (layout_in w.given) w.given.layout.capacity (start_in w.given) (world_in w) h.sound.layout (reached_now w h fine) in
    elim (progress w.given.plan (layout_in w.given) w.given.layout.capacity (start_in w.given) (world_in w) h.sound.layout h.sound.capacity h.sound.start h.sound.input history) [
      | inl done ↦ absurd (going done)
      | inr m ↦ step_of w m.task m.event m.next m.move
    ]

pub take_enabled : (w old : WorldData) (t i : ℕ) (r : Option ℕ) (b : Bool) → IsWorld w → w.has_failed ≡ false → w ≡ old → b ≡ is_some r → MatchOption r ((next : flow.World) → LeadsTo old (asked.Take t i) next → ⊥) (λ s. IsTakeable old t i s) → IsTrue b ↔ CanMake old (asked.Take t i)
take_enabled w old t i None b h fine same some none = (λ yes. absurd (false≢true (sym some ∙ yes)), λ can. absurd (none can.0 can.1))
take_enabled w old t i (Some s) b h fine same some can = (λ yes. subst (λ v. CanMake v (asked.Take t i)) same (takes_now w t i s h fine (subst (λ v. IsTakeable v t i s) (sym same) can)), λ can. some)

pub put_enabled : (w old : WorldData) (t : ℕ) (r : Option ℕ) (b : Bool) → IsWorld w → w ≡ old → b ≡ is_some r → MatchOption r ((next : flow.World) → LeadsTo old (asked.Put t) next → ⊥) (λ u. IsPuttable old t u) → IsTrue b ↔ CanMake old (asked.Put t)
put_enabled w old t None b h same some none = (λ yes. absurd (false≢true (sym some ∙ yes)), λ can. absurd (none can.0 can.1))
put_enabled w old t (Some u) b h same some can = (λ yes. subst (λ v. CanMake v (asked.Put t)) same (puts_now w t u h (subst (λ v. IsPuttable v t u) (sym same) can)), λ can. some)

-- a step that could be made is enabled in a world that has not failed
pub enabled_by : (w old : WorldData) (step this : Step) (b : Bool) → w.has_failed ≡ false → w ≡ old → step ≡ this → IsTrue b ↔ CanMake old this → IsTrue b ↔ ((old.has_failed ≡ false) × CanMake old step)
enabled_by w old step this b fine same is test = (λ yes. (ap (λ (v : WorldData). v.has_failed) (sym same) ∙ fine, subst (CanMake old) (sym is) (test.0 yes)), λ c. test.1 (subst (CanMake old) is c.1))

-- one more task is done
pub one_more_done : (ts : List TaskData) (n : ℕ) (d : TaskData) → n < length ts → d ≡ get_or ts n d → ((t : ℕ) (x : TaskData) → t < n → IsDone (get_or ts t x).state) → IsDone d.state → (t : ℕ) (x : TaskData) → t < n + 1 → IsDone (get_or ts t x).state
one_more_done ts n d l is before here t x k = elim (cases_lt t n) [
  | inl less ↦ before t x less
  | inr more ↦ (let at : n ≡ t = omega (arith, k, more) in subst (λ v. IsDone (get_or ts v x).state) at (subst (λ (v : TaskData). IsDone v.state) (is ∙ get_or_default ts n d x l) here))
]
