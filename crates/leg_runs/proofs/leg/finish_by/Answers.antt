use Rattle.std.proofs.Common.{◌≡◌, Result, Ok, Err, IfOk, IfSome, subst}
use Rattle.std.specs.Prelude.{MatchOption}
use Rattle.plan_model.specs.PlanData.{PlanData}
use Rattle.stream_model.specs.InputData.{InputData}
use Rattle.dataflow_model.specs.Leg.Until.{ToEnd}
use Rattle.redistribute.specs.Begins.{IsFromNothing}
use Rattle.core_steps.specs.Given.{GivenData}
use Rattle.core_steps.specs.declared.finish.Finish.{Finish}
use Rattle.core_steps.specs.declared.finish.Finish.TheVariants.{Ended, Stopped, Abandoned}
use Rattle.core_steps.specs.Finishing.{HasFinished, IsFinishIn}
use Rattle.core_steps.specs.Ending.{IsEndOf, IsWholeOrGivenUp, IsWholeRun}
use Rattle.leg_runs.proofs.Chosen.{ended_by, given_by}
use Rattle.leg_runs.proofs.leg.finish_by.Goals as goal

-- a whole run is one that was not given up
whole : (p : PlanData) (i : InputData) (finish : Finish) → IsWholeRun p i finish → IsWholeOrGivenUp p i finish
whole p i (Ended rows sealed) h = h
whole p i (Stopped rows savepoint) h = h
whole p i (Abandoned sealed) h = absurd h

weaker : {X E : Type 0} (r : Result X E) (P Q : X → Type 0) → ((x : X) → P x → Q x) → IfOk r P → IfOk r Q
weaker (Ok x) P Q f h = f x h
weaker (Err e) P Q f h = tt

pub returns-in-Err-clause-ends : goal.returns-in-Err-clause-ends
returns-in-Err-clause-ends c = subst (λ (x : GivenData). IfOk c.given_up.result (IsEndOf x.plan x.input x.start x.saves x.until)) c.make_steps.ensures.given c.given_up.ensures.ends

pub returns-in-Err-clause-whole : goal.returns-in-Err-clause-whole
returns-in-Err-clause-whole c =
    let whole = subst (λ (x : GivenData). IfOk c.given_up.result (IsWholeOrGivenUp x.plan x.input)) c.make_steps.ensures.given c.given_up.ensures.whole in
    weaker c.given_up.result _ _ (λ finish h nothing ends. h) whole

pub returns-clause-ends : goal.returns-clause-ends
returns-clause-ends c =
    let g = c.make_steps.new.world.given in
    let ends = subst (λ o. IfSome o (IsEndOf g.plan g.input g.start g.saves g.until)) c.in-Some.is c.in_ok-finish.ensures.ends in
    subst (λ (x : GivenData). IsEndOf x.plan x.input x.start x.saves x.until c.in-Some.finish) c.make_steps.ensures.given ends

pub returns-clause-whole : goal.returns-clause-whole
returns-clause-whole c =
    let g = c.make_steps.new.world.given in
    let is = subst (λ o. IfSome o (λ finish. IsFromNothing g.input g.start → g.until ≡ ToEnd → IsWholeRun g.plan g.input finish)) c.in-Some.is c.in_ok-finish.ensures.whole in
    subst (λ (x : GivenData). IsFromNothing x.input x.start → x.until ≡ ToEnd → IsWholeOrGivenUp x.plan x.input c.in-Some.finish) c.make_steps.ensures.given (λ nothing ends. whole g.plan g.input c.in-Some.finish (is nothing ends))

pub returns-in-Err-clause-chosen : goal.returns-in-Err-clause-chosen
returns-in-Err-clause-chosen c = given_by c.args.choices.now c.args.world c.make_steps.new.world c.given_up.result c.in-Err.ensures.gives_up c.given_up.ensures.failed c.given_up.ensures.abandoned

pub returns-clause-chosen : goal.returns-clause-chosen
returns-clause-chosen c =
    let new = c.make_steps.new.world in
    let is = subst (λ o. MatchOption o (HasFinished new → ⊥) (λ finish. HasFinished new × IsFinishIn new finish)) c.in-Some.is c.in_ok-finish.ensures.is in
    ended_by c.args.choices.now c.args.world new c.in-Some.finish c.in-Ok.ensures.chosen is.1
