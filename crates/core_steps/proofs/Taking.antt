-- A message taken from its ring.
use Rattle.std.proofs.Common.{◌≡◌, ℕ, Bool, true, false, List, [], ◌∷◌, ◌++◌, reverse, get_or, refl, sym, ap, subst, ◌∙◌, inl, inr, arith}
use Rattle.std.specs.Prelude.{Result, Ok, Err}
use Rattle.std.proofs.lemmas.Bool.{cases_eq, eq-eqb, ne_eqb, false≢true}
use Rattle.std.proofs.lemmas.List.{length-set}
use Rattle.std.proofs.lemmas.Grind.{reverse_onto}
use Rattle.dataflow_model.specs.declared.message.Message.{Message}
use Rattle.dataflow_model.specs.declared.message.Message.TheVariants as message
use Rattle.std.specs.List.{list_any}
use Rattle.dataflow_model.proofs.Facts.{no_source}
use Rattle.dataflow_model.specs.State.{State}
use Rattle.dataflow_model.specs.Steps.{Take, CanTake, Takes, LocalStep}
use Rattle.dataflow_laws.specs.declared.step.Step.TheVariants as step
use Rattle.dataflow_laws.specs.World.{with_task, with_ring, Move}
use Rattle.dataflow_laws.specs.World.Move.{takes}
use Rattle.dataflow_laws.proofs.Facts.{needs_step, worlds_are_histories, rings_are_admitted}
use Rattle.task_steps.specs.declared.fault.StepFault.{StepFault}
use Rattle.task_steps.specs.declared.fault.StepFault.TheVariants.{NotEnabled, Memory, Failed}
use Rattle.task_steps.specs.TaskData.{TaskData, Stands}
use Rattle.task_steps.specs.Taking.{IsReady}
use Rattle.task_steps.specs.Answers.{Answers, HasFailed, is_rows}
use Rattle.core_steps.specs.Given.{layout_in, start_in}
use Rattle.core_steps.specs.Queues.{Queue}
use Rattle.core_steps.specs.Rings.{RingsData, queue_at, PopsMessage, ChangesQueue}
use Rattle.core_steps.specs.World.{WorldData, world_in, state_at, held, IsWorld}
use Rattle.core_steps.specs.Answers.{CanMake, IsLeftAfter, has_records, is_memory}
use Rattle.core_steps.specs.RingSteps.{IsTakeable}
use Rattle.core_steps.proofs.States.{state_set}
use Rattle.core_steps.proofs.Worlds.{Goes, after, placed_at, going_at, state_of, within, reached_now, goes_made, goes_failed}
use Rattle.core_steps.proofs.Changes.{held_changes, room_stays, world_changes}
use Rattle.task_steps.proofs.Standing.{can_take}

-- a ring with the message that was taken from it is what it was
given_back : (old new : RingsData) (s t : ℕ) (q : Queue) (lost : List Message) → ChangesQueue s t q old new → held old s t ≡ reverse q.messages ++ lost → (x y : ℕ) → held old x y ≡ with_ring s t (held new s t ++ lost) (held new) x y
given_back old new s t q lost ch is x y = elim (cases_eq x s) [
  | inr ne ↦ (let b = ne_eqb x s ne in let h = held_changes old new s t q ch x y in rw b (sym (rw b at h)))
  | inl e ↦ elim (cases_eq y t) [
    | inr ne ↦ (let b = eq-eqb x s e in let c = ne_eqb y t ne in let h = held_changes old new s t q ch x y in rw (b, c) (sym (rw (b, c) at h)))
    | inl f ↦ (
        let b = eq-eqb x s e in
        let c = eq-eqb y t f in
        let bs = eq-eqb s s refl in
        let ct = eq-eqb t t refl in
        let h = held_changes old new s t q ch s t in
        rw (b, c) ((λ i. held old (e i) (f i)) ∙ is ∙ ap (λ v. v ++ lost) (sym (rw (bs, ct) at h))))
  ]
]

module _ (w : WorldData) (t i s : ℕ) (m : Message) (rest : List Message) (d : TaskData) (h : IsWorld w) (fine : w.has_failed ≡ false) (can : IsTakeable w t i s) (first : (queue_at w.rings s t).messages ≡ m ∷ rest) (is : d ≡ get_or w.tasks t d) where
  oldest : held w.rings s t ≡ reverse rest ++ m ∷ []
  oldest = ap (λ ms. reverse ms) first ∙ reverse_onto rest m []

  ready : CanTake ((layout_in w.given).task t) (state_at w.given w.tasks t) i
  ready = subst (λ v. CanTake ((layout_in w.given).task t) v i) (state_of w t d can.task is)
      (can_take w.given.plan ((layout_in w.given).task t) d i (placed_at w t d h can.task is).stands (subst (λ (v : TaskData). IsReady v i) (sym is) (can.ready d)))

  -- the message is admitted
  taking : Takes w.given.plan ((layout_in w.given).task t) (state_at w.given w.tasks t) i m
  taking =
      let l = layout_in w.given in
      let ring = h.sound.layout.input t i (no_source (l.task t) ready.taker) ready.input in
      let history = worlds_are_histories w.given.plan l w.given.layout.capacity (start_in w.given) (world_in w) h.sound.layout (reached_now w h fine) in
      let free = subst (λ v. CanTake (l.task t) (state_at w.given w.tasks t) v) (sym ring.1) ready in
      record {
        can = ready;
        admitted = rings_are_admitted w.given.plan l (start_in w.given) (world_in w) h.sound.layout h.sound.start h.sound.input history (l.from t i) t (reverse rest) m ring.0 (ap (λ v. held w.rings v t) (sym can.is) ∙ oldest) free;
      }

  pub take_is_made : CanMake w (step.Take t i)
  take_is_made =
      let made = needs_step w.given.plan ((layout_in w.given).task t) (state_at w.given w.tasks t) (Take i m) taking in
      let next = takes (within w t h can.task) (reverse rest) (ap (λ v. held w.rings v t) (sym can.is) ∙ oldest) made.1 in
      (_, record { event = Take i m; is = (m, refl); move = next })

-- a message without records is taken by an event without
no_records : (i : ℕ) (m : Message) → list_any has_records (m ∷ []) ≡ false → is_rows (Take i m) ≡ false
no_records i (message.Rows t) none = absurd cc
no_records i (message.Fired rows) none = refl
no_records i (message.Watermark t) none = refl
no_records i (message.Barrier n) none = refl
no_records i message.End none = refl

module _ (w : WorldData) (t i s : ℕ) (m : Message) (d : TaskData) (rings : RingsData) (h : IsWorld w) (fine : w.has_failed ≡ false) (can : IsTakeable w t i s) (pops : PopsMessage s t m w.rings rings) (is : d ≡ get_or w.tasks t d) where
  moved : (d' : TaskData) (f : Bool) → LocalStep w.given.plan ((layout_in w.given).task t) (state_at w.given w.tasks t) (Take i m) d'.state
      → Move w.given.plan (layout_in w.given) w.given.layout.capacity (world_in w) t (Take i m) (world_in (after w t d' rings f))
  moved d' f st =
      let ch = subst (λ v. ChangesQueue v t (record (queue_at w.rings v t) { messages = pops.rest }) w.rings rings) can.is pops.changes in
      let same = world_changes w t d' rings f ((layout_in w.given).from t i) t _ (reverse pops.rest) can.task ch refl in
      subst (λ v. Move w.given.plan (layout_in w.given) w.given.layout.capacity (world_in w) t (Take i m) v) same
      (takes (within w t h can.task) (reverse pops.rest) (ap (λ v. held w.rings v t) (sym can.is) ∙ oldest w t i s m pops.rest d h fine can pops.first is) st)

  left : (d' : TaskData) → HasFailed (Take i m) d d' → IsLeftAfter (step.Take t i) (world_in w) (after w t d' rings true)
  left d' failed = record {
    left = record {
      task = t;
      there = (let long = length-set w.tasks t d' in let inside = can.task in omega (arith, inside, long));
      going = ap (λ (v : State). v.over) (sym (state_of w t d can.task is)) ∙ failed.going;
      windows = failed.windows;
      tasks = λ u. state_set w.given w.tasks t d' can.task u
          ∙ ap (λ v. with_task t v (state_at w.given w.tasks) u) (ap (λ (x : TaskData). x.state) failed.is ∙ ap (λ (v : State). record v { windows = failed.windows }) (state_of w t d can.task is));
      sender = s;
      lost = m ∷ [];
      few = omega arith;
      rings = given_back w.rings rings s t _ (m ∷ []) pops.changes (oldest w t i s m pops.rest d h fine can pops.first is);
    };
    task = refl;
    lost = refl;
    spoiled = λ none. failed.spoiled (no_records i m none) ∙ ap (λ (v : State). v.windows) (state_of w t d can.task is);
    sender = λ u j e. let same : t ≡ u = cc in let at : i ≡ j = cc in can.is ∙ (λ k. (layout_in w.given).from (same k) (at k));
  }

  goes : (d' : TaskData) (r : Result (Unit {0}) StepFault) → Answers (λ p k. Stands p k d) (λ p k v. Takes p k v i m) (Take i m) d d' r → Goes (step.Take t i) w (after w t d' rings (is_memory r)) r
  goes d' (Ok x) a =
      let st = subst (λ v. LocalStep w.given.plan ((layout_in w.given).task t) v (Take i m) d'.state) (state_of w t d can.task is) (a.2 w.given.plan ((layout_in w.given).task t) (placed_at w t d h can.task is).stands) in
      goes_made (step.Take t i) w t d d' rings (Take i m) x h fine can.task is a.1 (room_stays w.rings rings s t _ pops.changes refl) (record { event = Take i m; is = (m, refl); move = moved d' false st }) (moved d' false st)
  goes d' (Err NotEnabled) a =
      absurd (a.2 w.given.plan ((layout_in w.given).task t) (placed_at w t d h can.task is).stands (subst (λ v. Takes w.given.plan ((layout_in w.given).task t) v i m) (sym (state_of w t d can.task is)) (taking w t i s m pops.rest d h fine can pops.first is)))
  goes d' (Err Memory) a =
      let made = take_is_made w t i s m pops.rest d h fine can pops.first is in
      goes_failed (step.Take t i) w t d d' rings (Take i m) h fine can.task is a.1 (room_stays w.rings rings s t _ pops.changes refl) made.0 made.1 (left d' a.1)
  goes d' (Err Failed) a = absurd (false≢true (sym (going_at w t d h fine can.task is) ∙ a.0))

  pub take_goes : (d' : TaskData) (r : Result (Unit {0}) StepFault) (f : Bool) → f ≡ is_memory r → Answers (λ p k. Stands p k d) (λ p k v. Takes p k v i m) (Take i m) d d' r → Goes (step.Take t i) w (after w t d' rings f) r
  take_goes d' r f failed a = subst (λ b. Goes (step.Take t i) w (after w t d' rings b) r) (sym failed) (goes d' r a)
