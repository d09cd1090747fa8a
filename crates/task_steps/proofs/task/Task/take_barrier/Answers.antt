use Rattle.std.proofs.Common.{◌≡◌, ◌<◌, false, refl, ap, sym, subst, ◌∙◌, arith, inl, inr}
use Rattle.std.specs.Prelude.{slice_set, MatchResult}
use Rattle.input_state.specs.declared.inputs.Shut.TheVariants.{Held}
use Rattle.input_state.specs.Inputs.{InputsData, alignment}
use Rattle.input_state.specs.declared.inputs.Aligned.TheVariants as aligned
use Rattle.dataflow_model.specs.declared.message.Message.TheVariants.{Barrier}
use Rattle.dataflow_model.specs.Steps.{Take, Takes}
use Rattle.task_steps.specs.declared.fault.StepFault.TheVariants.{Memory}
use Rattle.task_steps.specs.Limits.{barriers_in}
use Rattle.task_steps.specs.TaskData.{TaskData, task_view}
use Rattle.task_steps.specs.Taking.{IsReady}
use Rattle.task_steps.specs.Passing.{Passes, closed_at, refused_at}
use Rattle.task_steps.proofs.Barriers.{not_all_ended, takes_barrier_here, aligns_step, holds_step, passing}
use Rattle.task_steps.proofs.Going.{goes_on}
use Rattle.task_steps.proofs.Over.{going}
use Rattle.task_steps.proofs.Shutting.{shut_inputs}
use Rattle.task_steps.proofs.task.Task.take_barrier.Goals as goal

pub pass_barrier-requires-clause-going : goal.pass_barrier-requires-clause-going
pass_barrier-requires-clause-going c = (ap (λ (v : TaskData). v.has_failed) c.self.view_is ∙ c.requires.going, going c.self.inside c.args.self.now c.args.i c.self.invariant c.self.view_is c.requires.ready)

pub invariant_of-self-in-Waiting : goal.invariant_of-self-in-Waiting
invariant_of-self-in-Waiting c =
    let s = c.self.inside in
    shut_inputs s c.barrier.new.self c.args.i Held c.self.invariant (going s c.args.self.now c.args.i c.self.invariant c.self.view_is c.requires.ready) c.barrier.ensures.held
    (λ _ _. subst (λ (v : TaskData). v.state.next < barriers_in v.setup) (sym c.self.view_is) (c.if-not-expects.ensures.0 refl).1)

pub returns-in-Barrier : goal.returns-in-Barrier
returns-in-Barrier c =
    let s = c.self.inside in
    let d = c.args.self.now in
    let i = c.args.i in
    let n = c.args.n in
    let new = c.pass_barrier.new.self in
    let inside = task_view s in
    let told = c.if-not-expects.ensures.0 refl in
    let number = told.0 in
    let more = told.1 in
    let all : alignment (slice_set d.state.inputs.shut i Held) ≡ aligned.Barrier =
    sym (ap (λ (v : TaskData). alignment (slice_set v.state.inputs.shut i Held)) c.self.view_is) ∙ sym (ap (λ (v : InputsData). alignment v.shut) c.barrier.ensures.held) ∙ sym c.barrier.ensures.aligned ∙ c.in-Barrier.is in
    let shut : record inside { state = record inside.state { inputs = c.barrier.new.self } } ≡ closed_at i Held d =
    (λ j. record inside { state = record inside.state { inputs = c.barrier.ensures.held j } }) ∙ ap (closed_at i Held) c.self.view_is in
    let on : d.state.over ≡ false = sym (ap (λ (v : TaskData). v.state.over) c.self.view_is) ∙ going s d i c.self.invariant c.self.view_is c.requires.ready in
    passing (λ p k s. Takes p k s i (Barrier n)) (Take i (Barrier n)) d new i Held c.pass_barrier.result c.requires.going on c.requires.ready.free
    (λ p k st. takes_barrier_here p k d i n st c.requires.ready number more)
    (λ p k st. aligns_step p k d i n _ st c.requires.ready number more all refl)
    (subst (λ (m : TaskData). MatchResult c.pass_barrier.result (λ done. Passes m new) (λ fault. (fault ≡ Memory) × (new ≡ refused_at i m))) shut c.pass_barrier.ensures)

pub returns-in-Waiting : goal.returns-in-Waiting
returns-in-Waiting c =
    let s = c.self.inside in
    let d = c.args.self.now in
    let i = c.args.i in
    let n = c.args.n in
    let inside = task_view s in
    let ready : IsReady inside i = subst (λ (v : TaskData). IsReady v i) (sym c.self.view_is) c.requires.ready in
    let told = c.if-not-expects.ensures.0 refl in
    let number = told.0 in
    let more = told.1 in
    let said : c.barrier.result ≡ alignment (slice_set s.inputs.shut i Held) = c.barrier.ensures.aligned ∙ ap (λ (v : InputsData). alignment v.shut) c.barrier.ensures.held in
    let long = c.self.invariant.shut in
    let some = ready.input in
    let waits : c.barrier.result ≡ aligned.Waiting = elim c.in-Waiting.is [ inl e ↦ e | inr e ↦ absurd (not_all_ended s.inputs.shut i (omega arith) (sym said ∙ e)) ] in
    let wait : alignment (slice_set d.state.inputs.shut i Held) ≡ aligned.Waiting = sym (ap (λ (v : TaskData). alignment (slice_set v.state.inputs.shut i Held)) c.self.view_is) ∙ sym said ∙ waits in
    let shut : record inside { state = record inside.state { inputs = c.barrier.new.self } } ≡ closed_at i Held d =
    (λ j. record inside { state = record inside.state { inputs = c.barrier.ensures.held j } }) ∙ ap (closed_at i Held) c.self.view_is in (
      c.requires.going,
      goes_on d (record inside { state = record inside.state { inputs = c.barrier.new.self } }) (closed_at i Held d).state shut,
      λ p k st. holds_step p k d i n _ st c.requires.ready number more wait (ap (λ (v : TaskData). v.state) shut),
    )
