-- Steps that touch no ring.
use Rattle.std.proofs.Common.{◌≡◌, ℕ, ◌<◌, ◌++◌, [], Bool, true, false, length, get_or, set, refl, sym, ap, subst, ◌∙◌, inl, inr, arith}
use Rattle.std.specs.Prelude.{List, Result, Ok, Err, IfErr}
use Rattle.std.proofs.lemmas.Bool.{cases_eq, eq-eqb, ne_eqb, false≢true}
use Rattle.std.proofs.lemmas.List.{append-nil, length-set}
use Rattle.plan_model.specs.PlanData.{PlanData}
use Rattle.dataflow_model.specs.declared.message.Message.{Message}
use Rattle.dataflow_model.specs.AbstractTask.{AbstractTask}
use Rattle.dataflow_model.specs.State.{State}
use Rattle.dataflow_model.specs.Steps.{Event, Open, Read, Save, Stop, Close, Take, Put, LocalStep}
use Rattle.dataflow_laws.specs.Needs.{Needs}
use Rattle.dataflow_laws.specs.declared.step.Step.{Step}
use Rattle.dataflow_laws.specs.declared.step.Step.TheVariants as step
use Rattle.dataflow_laws.specs.StepTask.{task_of}
use Rattle.dataflow_laws.specs.StepMoves.{IsEventOf}
use Rattle.dataflow_laws.specs.World as flow
use Rattle.dataflow_laws.specs.World.{with_task, with_ring, IsInner, Move}
use Rattle.dataflow_laws.specs.World.Move.{inner}
use Rattle.dataflow_laws.proofs.Facts.{needs_step}
use Rattle.task_steps.specs.declared.fault.StepFault.{StepFault}
use Rattle.task_steps.specs.declared.fault.StepFault.TheVariants.{NotEnabled, Memory, Failed}
use Rattle.task_steps.specs.TaskData.{TaskData}
use Rattle.task_steps.specs.Answers.{Answers, HasFailed, is_rows}
use Rattle.core_steps.specs.Given.{layout_in}
use Rattle.core_steps.specs.World.{WorldData, world_in, state_at, held, IsWorld}
use Rattle.core_steps.specs.Answers.{IsLeftAfter, LeadsTo, is_memory, is_take}
use Rattle.core_steps.proofs.States.{state_set, move_needs}
use Rattle.core_steps.proofs.Worlds.{Goes, after, same_room, going_at, state_of, within, goes_same, same_after, goes_made, goes_failed}

-- rings of which one has nothing more
pub nothing_lost : (rings : ℕ → ℕ → List Message) (s t x y : ℕ) → rings x y ≡ with_ring s t (rings s t ++ []) rings x y
nothing_lost rings s t x y = elim (cases_eq x s) [
  | inr ne ↦ (let b = ne_eqb x s ne in rw b refl)
  | inl e ↦ elim (cases_eq y t) [
    | inr ne ↦ (let b = eq-eqb x s e in let c = ne_eqb y t ne in rw (b, c) refl)
    | inl f ↦ (let b = eq-eqb x s e in let c = eq-eqb y t f in rw (b, c) (ap (λ u. rings u y) e ∙ ap (rings s) f ∙ sym (append-nil (rings s t))))
  ]
]

-- a step that asks for this event of task t and no other
pub record AsksFor (step : Step) (w : WorldData) (t : ℕ) (e : Event) : Type 0 where
  pub task : task_of step ≡ t
  pub event : IsEventOf step e
  pub leads : (next : flow.World) → Move w.given.plan (layout_in w.given) w.given.layout.capacity (world_in w) t e next → LeadsTo w step next
  pub only : (next : flow.World) → LeadsTo w step next → Move w.given.plan (layout_in w.given) w.given.layout.capacity (world_in w) t e next

-- the move to a task's new state
moved : (w : WorldData) (t : ℕ) (d : TaskData) (e : Event) (f : Bool) → IsWorld w → t < length w.tasks → IsInner e → LocalStep w.given.plan ((layout_in w.given).task t) (state_at w.given w.tasks t) e d.state
    → Move w.given.plan (layout_in w.given) w.given.layout.capacity (world_in w) t e (world_in (after w t d w.rings f))
moved w t d e f h l i st =
    let same : record (world_in w) { tasks = with_task t d.state (state_at w.given w.tasks) } ≡ world_in (after w t d w.rings f) = λ j. record (world_in w) { tasks = λ u. sym (state_set w.given w.tasks t d l u) j } in
    subst (λ v. Move w.given.plan (layout_in w.given) w.given.layout.capacity (world_in w) t e v) same (inner (within w t h l) i st)

-- such a step takes no message, and no records
takes_none : (step : Step) (e : Event) → IsEventOf step e → IsInner e → is_take step ≡ false
takes_none (step.Open t) e is i = refl
takes_none (step.Read t q) e is i = refl
takes_none (step.Save t) e is i = refl
takes_none (step.Stop t) e is i = refl
takes_none (step.Close t) e is i = refl
takes_none (step.Take t i) e is touch = absurd (subst IsInner is.1 touch)
takes_none (step.Put t) e is i = refl

no_rows : (e : Event) → IsInner e → is_rows e ≡ false
no_rows Open i = refl
no_rows (Read q) i = refl
no_rows Save i = refl
no_rows Stop i = refl
no_rows Close i = refl
no_rows (Take i m) touch = absurd touch
no_rows (Put j m) touch = absurd touch

-- a task that has failed at such a step has lost nothing
left : (step : Step) (w : WorldData) (t : ℕ) (d d' : TaskData) (e : Event) → t < length w.tasks → d ≡ get_or w.tasks t d → AsksFor step w t e → IsInner e → HasFailed e d d' → IsLeftAfter step (world_in w) (after w t d' w.rings true)
left step w t d d' e l is asks i failed = record {
  left = record {
    task = t;
    there = (let long = length-set w.tasks t d' in omega (arith, l, long));
    going = ap (λ (s : State). s.over) (sym (state_of w t d l is)) ∙ failed.going;
    windows = failed.windows;
    tasks = λ u. state_set w.given w.tasks t d' l u
        ∙ ap (λ s. with_task t s (state_at w.given w.tasks) u) (ap (λ (x : TaskData). x.state) failed.is ∙ ap (λ (s : State). record s { windows = failed.windows }) (state_of w t d l is));
    sender = 0;
    lost = [];
    few = omega arith;
    rings = λ x y. nothing_lost (held w.rings) 0 t x y;
  };
  task = sym asks.task;
  lost = (let none = takes_none step e asks.event i in rw none refl);
  sender = λ u j same. absurd (false≢true (sym (takes_none step e asks.event i) ∙ ap is_take same));
  spoiled = λ none. failed.spoiled (no_rows e i) ∙ ap (λ (s : State). s.windows) (state_of w t d l is) ∙ ap (λ u. (state_at w.given w.tasks u).windows) (sym asks.task);
}

-- whatever the task answers
pub inner_goes : (step : Step) (w : WorldData) (t : ℕ) (d d' : TaskData) (e : Event) (is : PlanData → AbstractTask → Type 0) (r : Result (Unit {0}) StepFault)
    → IsWorld w → w.has_failed ≡ false → t < length w.tasks → d ≡ get_or w.tasks t d → AsksFor step w t e → IsInner e → is w.given.plan ((layout_in w.given).task t)
    → Answers is (λ p k s. Needs p k s e) e d d' r → Goes step w (after w t d' w.rings (is_memory r)) r
inner_goes step w t d d' e is (Ok x) h fine l same asks i here a =
    let st = subst (λ s. LocalStep w.given.plan ((layout_in w.given).task t) s e d'.state) (state_of w t d l same) (a.2 w.given.plan ((layout_in w.given).task t) here) in
    let move = moved w t d' e false h l i st in
    goes_made step w t d d' w.rings e x h fine l same a.1 (same_room w.rings) (asks.leads _ move) move
inner_goes step w t d d' e is (Err NotEnabled) h fine l same asks i here a =
    goes_same step w (after w t d' w.rings false) h fine (same_after w t d d' fine same a.1)
    (λ next leads. a.2 w.given.plan ((layout_in w.given).task t) here
    (subst (λ s. Needs w.given.plan ((layout_in w.given).task t) s e) (sym (state_of w t d l same)) (move_needs w.given.plan (layout_in w.given) w.given.layout.capacity (world_in w) t e next (asks.only next leads))))
inner_goes step w t d d' e is (Err Memory) h fine l same asks i here a =
    let can = subst (λ s. Needs w.given.plan ((layout_in w.given).task t) s e) (state_of w t d l same) (a.2 w.given.plan ((layout_in w.given).task t) here) in
    let made = needs_step w.given.plan ((layout_in w.given).task t) (state_at w.given w.tasks t) e can in
    goes_failed step w t d d' w.rings e h fine l same a.1 (same_room w.rings) _ (asks.leads _ (inner (within w t h l) i made.1)) (left step w t d d' e l same asks i a.1)
inner_goes step w t d d' e is (Err Failed) h fine l same asks i here a = absurd (false≢true (sym (going_at w t d h fine l same) ∙ a.0))

-- an answer that finds no want of memory
quiet : (r : Result (Unit {0}) StepFault) → IfErr r (λ fault. fault ≡ Memory → ⊥) → is_memory r ≡ false
quiet (Ok x) none = refl
quiet (Err NotEnabled) none = refl
quiet (Err Memory) none = absurd (none refl)
quiet (Err Failed) none = refl

pub quiet_goes : (step : Step) (w : WorldData) (t : ℕ) (d d' : TaskData) (e : Event) (is : PlanData → AbstractTask → Type 0) (r : Result (Unit {0}) StepFault) → IfErr r (λ fault. fault ≡ Memory → ⊥)
    → IsWorld w → w.has_failed ≡ false → t < length w.tasks → d ≡ get_or w.tasks t d → AsksFor step w t e → IsInner e → is w.given.plan ((layout_in w.given).task t)
    → Answers is (λ p k s. Needs p k s e) e d d' r → Goes step w (record w { tasks = set w.tasks t d' }) r
quiet_goes step w t d d' e is r none h fine l same asks i here a =
    subst (λ f. Goes step w (after w t d' w.rings f) r) (quiet r none ∙ sym fine) (inner_goes step w t d d' e is r h fine l same asks i here a)

-- what asks for an event that the step names whole
pub asks_for : (step : Step) (w : WorldData) (t : ℕ) (e : Event) → task_of step ≡ t → IsEventOf step e → ((e' : Event) → IsEventOf step e' → e' ≡ e) → AsksFor step w t e
asks_for step w t e task is only = record {
  task = task;
  event = is;
  leads = λ next move. (record { event = e; is = is; move = subst (λ u. Move w.given.plan (layout_in w.given) w.given.layout.capacity (world_in w) u e next) (sym task) move });
  only = λ next leads. (subst (λ u. Move w.given.plan (layout_in w.given) w.given.layout.capacity (world_in w) u e next) task
      (subst (λ v. Move w.given.plan (layout_in w.given) w.given.layout.capacity (world_in w) (task_of step) v next) (only leads.event leads.is) leads.move));
}
