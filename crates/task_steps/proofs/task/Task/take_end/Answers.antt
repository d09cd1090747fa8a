use Rattle.std.proofs.Common.{◌≡◌, ◌++◌, [], true, false, refl, ap, sym, subst, ◌∙◌}
use Rattle.std.specs.Prelude.{slice_set, MatchResult}
use Rattle.input_state.specs.declared.inputs.Shut.TheVariants.{Ended}
use Rattle.input_state.specs.Inputs.{InputsData, alignment}
use Rattle.input_state.specs.declared.inputs.Aligned.TheVariants as aligned
use Rattle.dataflow_model.specs.declared.message.Message.TheVariants.{End}
use Rattle.dataflow_model.specs.State.{State}
use Rattle.dataflow_model.specs.Routes.{to_all}
use Rattle.dataflow_model.specs.Steps.{Take, Takes}
use Rattle.task_steps.specs.declared.fault.StepFault.TheVariants.{Memory}
use Rattle.task_steps.specs.TaskData.{TaskData, task_view}
use Rattle.task_steps.specs.Taking.{IsReady}
use Rattle.task_steps.specs.Passing.{Passes, closed_at, refused_at}
use Rattle.task_steps.proofs.Barriers.{held_before, held_of, takes_end_here, ends_step, ends_all_step, ends_aligned_step, passing}
use Rattle.task_steps.proofs.Going.{goes_on}
use Rattle.task_steps.proofs.Over.{going}
use Rattle.task_steps.proofs.Shutting.{end_input}
use Rattle.task_steps.proofs.task.Task.take_end.Goals as goal

pub invariant_of-self : goal.invariant_of-self
invariant_of-self c =
    end_input c.self.inside c.end.new.self c.args.i c.self.invariant (going c.self.inside c.args.self.now c.args.i c.self.invariant c.self.view_is c.requires.ready) c.end.ensures.ended

pub invariant_of-self-in-Waiting : goal.invariant_of-self-in-Waiting
invariant_of-self-in-Waiting c =
    end_input c.self.inside c.end.new.self c.args.i c.self.invariant (going c.self.inside c.args.self.now c.args.i c.self.invariant c.self.view_is c.requires.ready) c.end.ensures.ended

pub pass_barrier-requires-clause-going : goal.pass_barrier-requires-clause-going
pass_barrier-requires-clause-going c = (ap (λ (v : TaskData). v.has_failed) c.self.view_is ∙ c.requires.going, going c.self.inside c.args.self.now c.args.i c.self.invariant c.self.view_is c.requires.ready)

pub pass_barrier-requires-clause-more : goal.pass_barrier-requires-clause-more
pass_barrier-requires-clause-more c =
    let s = c.self.inside in
    let i = c.args.i in
    let ready : IsReady (task_view s) i = subst (λ (v : TaskData). IsReady v i) (sym c.self.view_is) c.requires.ready in
    let here : alignment (slice_set s.inputs.shut i Ended) ≡ aligned.Barrier = sym (ap (λ (v : InputsData). alignment v.shut) c.end.ensures.ended) ∙ sym c.end.ensures.aligned ∙ c.in-Barrier.is in
    c.self.invariant.held (going s c.args.self.now i c.self.invariant c.self.view_is c.requires.ready) ready.taker (held_before s.inputs.shut i (held_of (slice_set s.inputs.shut i Ended) here))

pub returns-in-Barrier : goal.returns-in-Barrier
returns-in-Barrier c =
    let s = c.self.inside in
    let d = c.args.self.now in
    let i = c.args.i in
    let new = c.pass_barrier.new.self in
    let inside = task_view s in
    let all : alignment (slice_set d.state.inputs.shut i Ended) ≡ aligned.Barrier =
    sym (ap (λ (v : TaskData). alignment (slice_set v.state.inputs.shut i Ended)) c.self.view_is) ∙ sym (ap (λ (v : InputsData). alignment v.shut) c.end.ensures.ended) ∙ sym c.end.ensures.aligned ∙ c.in-Barrier.is in
    let shut : record inside { state = record inside.state { inputs = c.end.new.self } } ≡ closed_at i Ended d =
    (λ j. record inside { state = record inside.state { inputs = c.end.ensures.ended j } }) ∙ ap (closed_at i Ended) c.self.view_is in
    let on : d.state.over ≡ false = sym (ap (λ (v : TaskData). v.state.over) c.self.view_is) ∙ going s d i c.self.invariant c.self.view_is c.requires.ready in
    passing (λ p k s. Takes p k s i End) (Take i End) d new i Ended c.pass_barrier.result c.requires.going on c.requires.ready.free
    (λ p k st. takes_end_here p k d i st c.requires.ready)
    (λ p k st. ends_aligned_step p k d i _ st c.requires.ready all refl)
    (subst (λ (m : TaskData). MatchResult c.pass_barrier.result (λ done. Passes m new) (λ fault. (fault ≡ Memory) × (new ≡ refused_at i m))) shut c.pass_barrier.ensures)

pub returns-in-AllEnded : goal.returns-in-AllEnded
returns-in-AllEnded c =
    let s = c.self.inside in
    let d = c.args.self.now in
    let i = c.args.i in
    let inside = task_view s in
    let said : alignment (slice_set d.state.inputs.shut i Ended) ≡ aligned.AllEnded =
    sym (ap (λ (v : TaskData). alignment (slice_set v.state.inputs.shut i Ended)) c.self.view_is) ∙ sym (ap (λ (v : InputsData). alignment v.shut) c.end.ensures.ended) ∙ sym c.end.ensures.aligned ∙ c.in-AllEnded.is in
    let idle : s.pending.items ≡ [] = ap (λ (v : TaskData). v.state.pending) c.self.view_is ∙ c.requires.ready.idle in
    let sent : c.to_all.new.pending.items ≡ to_all s.setup.outputs End = c.to_all.ensures.pending ∙ ap (λ l. l ++ to_all s.setup.outputs End) idle in
    let now : State = record inside.state { inputs = c.end.new.self; over = true; pending = c.to_all.new.pending.items } in
    let ends : TaskData → TaskData = λ v. record v { state = record (closed_at i Ended v).state { over = true; pending = to_all v.setup.outputs End } } in
    let made : record inside { state = now } ≡ ends d =
    (λ j. record inside { state = record inside.state { inputs = c.end.ensures.ended j; over = true; pending = sent j } }) ∙ ap ends c.self.view_is in (
      c.requires.going,
      goes_on d (record inside { state = now }) (ends d).state made,
      λ p k st. ends_all_step p k d i now st c.requires.ready said (ap (λ (v : TaskData). v.state) made),
    )

pub returns-in-Waiting : goal.returns-in-Waiting
returns-in-Waiting c =
    let s = c.self.inside in
    let d = c.args.self.now in
    let i = c.args.i in
    let inside = task_view s in
    let said : alignment (slice_set d.state.inputs.shut i Ended) ≡ aligned.Waiting =
    sym (ap (λ (v : TaskData). alignment (slice_set v.state.inputs.shut i Ended)) c.self.view_is) ∙ sym (ap (λ (v : InputsData). alignment v.shut) c.end.ensures.ended) ∙ sym c.end.ensures.aligned ∙ c.in-Waiting.is in
    let shut : record inside { state = record inside.state { inputs = c.end.new.self } } ≡ closed_at i Ended d =
    (λ j. record inside { state = record inside.state { inputs = c.end.ensures.ended j } }) ∙ ap (closed_at i Ended) c.self.view_is in (
      c.requires.going,
      goes_on d (record inside { state = record inside.state { inputs = c.end.new.self } }) (closed_at i Ended d).state shut,
      λ p k st. ends_step p k d i _ st c.requires.ready said (ap (λ (v : TaskData). v.state) shut),
    )
