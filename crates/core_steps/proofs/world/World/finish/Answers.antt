use Rattle.std.proofs.Common.{◌≡◌, sym, subst, ◌∙◌}
use Rattle.dataflow_model.specs.Leg.Until.{ToEnd}
use Rattle.legs.specs.Stops.{until_in}
use Rattle.redistribute.specs.Begins.{IsFromNothing}
use Rattle.core_steps.specs.Ending.{IsEndOf, IsWholeRun}
use Rattle.core_steps.specs.Finishing.{AreAtEnd, HasFinished, IsFinishIn, IsFinishOf}
use Rattle.core_steps.specs.Given.{GivenData}
use Rattle.core_steps.specs.World.{WorldData, state_at, world_view}
use Rattle.core_steps.proofs.Ending.{at_end}
use Rattle.core_steps.proofs.world.World.finish.Goals as goal

pub finish_of-requires : goal.finish_of-requires
finish_of-requires c =
    let s = c.self.inside in
    let done : HasFinished c.args.self = record { going = sym c.has_failed.ensures.says ∙ c.if-has_failed.false; finished = c.is_finished.ensures.done.0 c.if-not-is_finished.false } in
    subst (λ (g : GivenData). AreAtEnd g s.tasks.items) (sym (c.begun.ensures (until_in s.leg.until))) (at_end (world_view s) c.self.invariant (subst HasFinished (sym c.self.view_is) done))

pub returns-clause-is : goal.returns-clause-is
returns-clause-is c =
    let s = c.self.inside in
    let finish = c.in_ok-finish_of.field-0 in (
      record { going = sym c.has_failed.ensures.says ∙ c.if-has_failed.false; finished = c.is_finished.ensures.done.0 c.if-not-is_finished.false },
      subst (λ (w : WorldData). IsFinishIn w finish) c.self.view_is (subst (λ (g : GivenData). IsFinishOf g (state_at g s.tasks.items) finish) (c.begun.ensures (until_in s.leg.until)) c.in_ok-finish_of.ensures.is),
    )

pub returns-clause-ends : goal.returns-clause-ends
returns-clause-ends c =
    let finish = c.in_ok-finish_of.field-0 in
    subst (λ (w : WorldData). IsEndOf w.given.plan w.given.input w.given.start w.given.saves w.given.until finish) c.self.view_is
    (subst (λ (g : GivenData). IsEndOf g.plan g.input g.start g.saves g.until finish) (c.begun.ensures (until_in c.self.inside.leg.until)) c.in_ok-finish_of.ensures.ends)

pub returns-clause-whole : goal.returns-clause-whole
returns-clause-whole c =
    let finish = c.in_ok-finish_of.field-0 in
    subst (λ (w : WorldData). IsFromNothing w.given.input w.given.start → w.given.until ≡ ToEnd → IsWholeRun w.given.plan w.given.input finish) c.self.view_is
    (subst (λ (g : GivenData). IsFromNothing g.input g.start → g.until ≡ ToEnd → IsWholeRun g.plan g.input finish) (c.begun.ensures (until_in c.self.inside.leg.until)) c.in_ok-finish_of.ensures.whole)
