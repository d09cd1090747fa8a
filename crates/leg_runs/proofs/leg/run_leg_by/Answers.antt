use Rattle.std.proofs.Common.{◌≡◌, ap, subst}
use Rattle.dataflow_model.specs.Leg.Until.{ToEnd}
use Rattle.legs.specs.Stops.{until_of}
use Rattle.redistribute.specs.Begins.{IsFromNothing}
use Rattle.task_setups.specs.Legs.{counts_of}
use Rattle.core_steps.specs.Beginning.{IsNewWorld}
use Rattle.core_steps.specs.Given.{GivenData}
use Rattle.core_steps.specs.Ending.{IsEndOf, IsWholeOrGivenUp}
use Rattle.leg_runs.proofs.leg.run_leg_by.Goals as goal

pub returns-clause-ends : goal.returns-clause-ends
returns-clause-ends c = subst (λ (x : GivenData). IsEndOf x.plan x.input x.start x.saves x.until c.in_ok-finish_by.field-0) c.in_ok-world.ensures.opens.given c.in_ok-finish_by.ensures.ends

pub returns-clause-whole : goal.returns-clause-whole
returns-clause-whole c = λ nothing never.
    subst (λ (x : GivenData). IsFromNothing x.input x.start → x.until ≡ ToEnd → IsWholeOrGivenUp x.plan x.input c.in_ok-finish_by.field-0) c.in_ok-world.ensures.opens.given c.in_ok-finish_by.ensures.whole nothing (ap until_of never)

pub returns-clause-chosen : goal.returns-clause-chosen
returns-clause-chosen c = record {
  world = c.in_ok-world.world;
  opens = subst (λ l. IsNewWorld (record { plan = c.args.plan.now; input = c.args.input.now; start = c.args.start.now; layout = l; saves = counts_of c.args.saves.now; until = until_of c.args.stop }) c.in_ok-world.world) c.in_ok-layout.ensures c.in_ok-world.ensures.opens;
  ends = c.in_ok-finish_by.ensures.chosen;
}
