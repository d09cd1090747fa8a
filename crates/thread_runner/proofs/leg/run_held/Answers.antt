use Rattle.std.proofs.Common.{◌≡◌, subst, sym, ap, ◌∙◌}
use Rattle.std.specs.Prelude.{IfOk}
use Rattle.std.proofs.lemmas.Result.{IfOk-weaker}
use Rattle.dataflow_model.specs.Leg.{Until}
use Rattle.dataflow_model.specs.Leg.Until.{ToEnd}
use Rattle.legs.specs.Stops.{until_in}
use Rattle.redistribute.specs.Begins.{IsFromNothing}
use Rattle.redistribute.specs.StartData.{StartData}
use Rattle.task_setups.specs.Legs.{counts_of}
use Rattle.core_steps.specs.Ending.{IsEndOf, IsWholeOrGivenUp}
use Rattle.core_steps.specs.Given.{GivenData}
use Rattle.core_steps.specs.World.{IsSound}
use Rattle.core_steps.specs.declared.finish.Finish.{Finish}
use Rattle.thread_runner.specs.declared.stop.Stop.TheVariants.{Never}
use Rattle.thread_runner.specs.Legs.{AreWired}
use Rattle.thread_runner.specs.Starts.{start_held}
use Rattle.thread_runner.specs.Stops.{until_of}
use Rattle.thread_runner.proofs.leg.run_held.Goals as goal

pub run_begun-requires-clause-sound : goal.run_begun-requires-clause-sound
run_begun-requires-clause-sound g c = λ _ _. subst IsSound (sym (c.with-begun.ensures (until_in c.into_parts-until.result.0))) c.in_ok-jobs.ensures.sound

pub run_begun-requires-clause-wired : goal.run_begun-requires-clause-wired
run_begun-requires-clause-wired g c = λ _ _. subst (λ (x : GivenData). AreWired x c.in_ok-jobs.jobs.items) (sym (c.with-begun.ensures (until_in c.into_parts-until.result.0))) c.in_ok-jobs.ensures.wired

pub returns-clause-ends : goal.returns-clause-ends
returns-clause-ends g c =
    let r = c.run_begun.result in
    let p = c.args.plan.now in
    let i = c.args.input.now in
    let saves = counts_of c.args.saves.now in
    let said = subst (λ (x : GivenData). IfOk r (λ (f : Finish). IsEndOf x.plan x.input x.start x.saves x.until f)) (c.with-begun.ensures (until_in c.into_parts-until.result.0)) c.run_begun.ensures.ends in
    subst (λ (s : StartData). IfOk r (λ (f : Finish). IsEndOf p i s saves (until_of c.args.stop) f)) c.get-begins.ensures
    (subst (λ (u : Until). IfOk r (λ (f : Finish). IsEndOf p i c.get-begins.result.now saves u f)) c.into_parts-until.ensures said)

pub returns-clause-whole : goal.returns-clause-whole
returns-clause-whole g c =
    let r = c.run_begun.result in
    let p = c.args.plan.now in
    let i = c.args.input.now in
    let s = start_held c.args.start in
    let said = subst (λ (x : GivenData). IfOk r (λ (f : Finish). IsFromNothing x.input x.start → x.until ≡ ToEnd → IsWholeOrGivenUp x.plan x.input f)) (c.with-begun.ensures (until_in c.into_parts-until.result.0)) c.run_begun.ensures.whole in
    let here = subst (λ (x : StartData). IfOk r (λ (f : Finish). IsFromNothing i x → until_in c.into_parts-until.result.0 ≡ ToEnd → IsWholeOrGivenUp p i f)) c.get-begins.ensures said in
    IfOk-weaker r (λ (f : Finish). IsFromNothing i s → until_in c.into_parts-until.result.0 ≡ ToEnd → IsWholeOrGivenUp p i f) (λ (f : Finish). IsFromNothing i s → c.args.stop ≡ Never → IsWholeOrGivenUp p i f)
    (λ f whole nothing never. whole nothing (c.into_parts-until.ensures ∙ ap until_of never)) here
