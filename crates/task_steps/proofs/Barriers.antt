-- A barrier at a task.
use Rattle.std.proofs.Common.{◌≡◌, ℕ, zero, suc, ◌+◌, ◌<◌, Bool, true, false, List, [], ◌∷◌, length, refl, sym, ap, subst, ◌∙◌, arith}
use Rattle.std.specs.Prelude.{slice_set, if◌then◌else◌, Result, Ok, Err, MatchResult}
use Rattle.plan_model.specs.PlanData.{PlanData}
use Rattle.input_state.specs.declared.inputs.Shut.{Shut}
use Rattle.input_state.specs.declared.inputs.Shut.TheVariants.{Free, Held, Ended}
use Rattle.input_state.specs.declared.inputs.Aligned.TheVariants as aligned
use Rattle.input_state.specs.Inputs.{inputs_from, all_shut, any_held, alignment, released, is_free, shut_at}
use Rattle.dataflow_model.specs.declared.message.Message.TheVariants.{Barrier, End}
use Rattle.dataflow_model.specs.Ending.{may_stop}
use Rattle.dataflow_model.specs.AbstractTask.{AbstractTask}
use Rattle.dataflow_model.specs.State.{State}
use Rattle.dataflow_model.specs.Routes.{to_all}
use Rattle.dataflow_model.specs.Steps.{Event, Take, Takes, LocalStep, past_barrier}
use Rattle.dataflow_model.specs.Steps.LocalStep.{holds, aligns, ends, ends_all, ends_aligned}
use Rattle.task_steps.specs.Limits.{barriers_in}
use Rattle.task_steps.specs.TaskData.{TaskData, Stands}
use Rattle.task_steps.specs.declared.fault.StepFault.{StepFault}
use Rattle.task_steps.specs.declared.fault.StepFault.TheVariants.{Memory}
use Rattle.task_steps.specs.Answers.{Answers}
use Rattle.task_steps.specs.Passing.{Passes, closed_at, refused_at}
use Rattle.task_steps.specs.Taking.{IsReady}
use Rattle.task_steps.proofs.Standing.{can_take, stands_still}

held_set : (shut : List Shut) (i : ℕ) → i < length shut → any_held (slice_set shut i Held) ≡ true
held_set [] i l = absurd (omega arith)
held_set (s ∷ ss) zero l = refl
held_set (Free ∷ ss) (suc i) l = held_set ss i (omega arith)
held_set (Held ∷ ss) (suc i) l = refl
held_set (Ended ∷ ss) (suc i) l = held_set ss i (omega arith)

not_ended : (a b : Bool) → b ≡ true → (if a then (if b then aligned.Barrier else aligned.AllEnded) else aligned.Waiting) ≡ aligned.AllEnded → ⊥
not_ended true true e f = cc
not_ended true false e f = cc
not_ended false b e f = cc

-- a held input is one that has not ended
pub not_all_ended : (shut : List Shut) (i : ℕ) → i < length shut → alignment (slice_set shut i Held) ≡ aligned.AllEnded → ⊥
not_all_ended shut i l = not_ended (all_shut (slice_set shut i Held)) (any_held (slice_set shut i Held)) (held_set shut i l)

-- with a barrier that comes to it the task can take it
pub takes_barrier_here : (p : PlanData) (k : AbstractTask) (d : TaskData) (i n : ℕ) → Stands p k d → IsReady d i → n ≡ d.setup.first + d.state.next → d.state.next < barriers_in d.setup → Takes p k d.state i (Barrier n)
takes_barrier_here p k d i n st r is more = record {
  can = can_take p k d i st r;
  admitted = (is ∙ (λ j. st.first j + d.state.next), subst (λ m. d.state.next < m) (λ j. st.saves j + (if may_stop (st.ending j) then 1 else 0)) more);
}

pub aligns_step : (p : PlanData) (k : AbstractTask) (d : TaskData) (i n : ℕ) (now : State) → Stands p k d → IsReady d i → n ≡ d.setup.first + d.state.next → d.state.next < barriers_in d.setup
    → alignment (slice_set d.state.inputs.shut i Held) ≡ aligned.Barrier → now ≡ past_barrier k d.state (slice_set d.state.inputs.shut i Held) → LocalStep p k d.state (Take i (Barrier n)) now
aligns_step p k d i n now st r is more all made = subst (LocalStep p k d.state (Take i (Barrier n))) (sym made) (aligns (takes_barrier_here p k d i n st r is more) all)

pub holds_step : (p : PlanData) (k : AbstractTask) (d : TaskData) (i n : ℕ) (now : State) → Stands p k d → IsReady d i → n ≡ d.setup.first + d.state.next → d.state.next < barriers_in d.setup
    → alignment (slice_set d.state.inputs.shut i Held) ≡ aligned.Waiting
    → now ≡ record d.state { inputs = inputs_from d.state.inputs.marks (slice_set d.state.inputs.shut i Held) } → LocalStep p k d.state (Take i (Barrier n)) now
holds_step p k d i n now st r is more some made = subst (LocalStep p k d.state (Take i (Barrier n))) (sym made) (holds (takes_barrier_here p k d i n st r is more) some)

-- an input that was free is as it was once it is made free again
pub reopened : (shut : List Shut) (i : ℕ) (how : Shut) → is_free (shut_at shut i) ≡ true → slice_set (slice_set shut i how) i Free ≡ shut
reopened [] i how free = refl
reopened (Free ∷ ss) zero how free = refl
reopened (Held ∷ ss) zero how free = cc
reopened (Ended ∷ ss) zero how free = cc
reopened (s ∷ ss) (suc i) how free = ap (λ rest. s ∷ rest) (reopened ss i how free)

-- no input is held that was let go
pub none_held_after : (shut : List Shut) → any_held (released shut) ≡ false
none_held_after [] = refl
none_held_after (Free ∷ ss) = none_held_after ss
none_held_after (Held ∷ ss) = none_held_after ss
none_held_after (Ended ∷ ss) = none_held_after ss

any_by : (a b : Bool) → (if a then (if b then aligned.Barrier else aligned.AllEnded) else aligned.Waiting) ≡ aligned.Barrier → b ≡ true
any_by true true e = refl
any_by true false e = cc
any_by false b e = cc

-- inputs that are aligned, not all by their end, have one that is held
pub held_of : (shut : List Shut) → alignment shut ≡ aligned.Barrier → any_held shut ≡ true
held_of shut e = any_by (all_shut shut) (any_held shut) e

-- an end holds no input
pub held_before : (shut : List Shut) (i : ℕ) → any_held (slice_set shut i Ended) ≡ true → any_held shut ≡ true
held_before [] i h = h
held_before (Free ∷ ss) zero h = h
held_before (Held ∷ ss) zero h = refl
held_before (Ended ∷ ss) zero h = h
held_before (Free ∷ ss) (suc i) h = held_before ss i h
held_before (Held ∷ ss) (suc i) h = refl
held_before (Ended ∷ ss) (suc i) h = held_before ss i h

pub takes_end_here : (p : PlanData) (k : AbstractTask) (d : TaskData) (i : ℕ) → Stands p k d → IsReady d i → Takes p k d.state i End
takes_end_here p k d i st r = record { can = can_take p k d i st r; admitted = tt }

pub ends_step : (p : PlanData) (k : AbstractTask) (d : TaskData) (i : ℕ) (now : State) → Stands p k d → IsReady d i → alignment (slice_set d.state.inputs.shut i Ended) ≡ aligned.Waiting
    → now ≡ record d.state { inputs = inputs_from d.state.inputs.marks (slice_set d.state.inputs.shut i Ended) } → LocalStep p k d.state (Take i End) now
ends_step p k d i now st r some made = subst (LocalStep p k d.state (Take i End)) (sym made) (ends (takes_end_here p k d i st r) some)

pub ends_all_step : (p : PlanData) (k : AbstractTask) (d : TaskData) (i : ℕ) (now : State) → Stands p k d → IsReady d i → alignment (slice_set d.state.inputs.shut i Ended) ≡ aligned.AllEnded
    → now ≡ record d.state { inputs = inputs_from d.state.inputs.marks (slice_set d.state.inputs.shut i Ended); over = true; pending = to_all d.setup.outputs End } → LocalStep p k d.state (Take i End) now
ends_all_step p k d i now st r all made =
    subst (LocalStep p k d.state (Take i End))
    ((λ j. record d.state { inputs = inputs_from d.state.inputs.marks (slice_set d.state.inputs.shut i Ended); over = true; pending = to_all (sym st.outputs j) End }) ∙ sym made)
    (ends_all (takes_end_here p k d i st r) all)

pub ends_aligned_step : (p : PlanData) (k : AbstractTask) (d : TaskData) (i : ℕ) (now : State) → Stands p k d → IsReady d i → alignment (slice_set d.state.inputs.shut i Ended) ≡ aligned.Barrier
    → now ≡ past_barrier k d.state (slice_set d.state.inputs.shut i Ended) → LocalStep p k d.state (Take i End) now
ends_aligned_step p k d i now st r all made = subst (LocalStep p k d.state (Take i End)) (sym made) (ends_aligned (takes_end_here p k d i st r) all)

-- what a step answers that shut input i, where all inputs have come to the leg's next barrier then
pub passing : (can : PlanData → AbstractTask → State → Type 0) (e : Event) (old new : TaskData) (i : ℕ) (how : Shut) (said : Result (Unit {0}) StepFault)
    → old.has_failed ≡ false → old.state.over ≡ false → is_free (shut_at old.state.inputs.shut i) ≡ true
    → ((p : PlanData) (k : AbstractTask) → Stands p k old → can p k old.state)
    → ((p : PlanData) (k : AbstractTask) → Stands p k old → LocalStep p k old.state e (past_barrier k old.state (slice_set old.state.inputs.shut i how)))
    → MatchResult said (λ done. Passes (closed_at i how old) new) (λ fault. (fault ≡ Memory) × (new ≡ refused_at i (closed_at i how old)))
    → Answers (λ p k. Stands p k old) can e old new said
passing can e old new i how (Ok done) sound going free could step says = (
  sound,
  record { is = says.0.is },
  λ p k st. subst (LocalStep p k old.state e) (sym (says.1 p k (stands_still p k old (closed_at i how old).state old.has_failed st))) (step p k st),
)
passing can e old new i how (Err fault) sound going free could step says =
    subst (λ f. Answers (λ p k. Stands p k old) can e old new (Err f)) (sym says.0) (
      sound,
      record {
        windows = old.state.windows;
        spoiled = λ _. refl;
        going = going;
        is = says.1 ∙ ap (λ shut. record old { state = record old.state { inputs = inputs_from old.state.inputs.marks shut }; has_failed = true }) (reopened old.state.inputs.shut i how free);
      },
      could,
    )
