use Rattle.std.proofs.Common.{subst}
use Rattle.legs.specs.Stops.{until_in}
use Rattle.dataflow_laws.specs.Compiled.{layout_to}
use Rattle.leg_tasks.specs.Beginning.{BeginLeg}
use Rattle.core_steps.specs.Given.{given_data, layout_in}
use Rattle.core_steps.specs.Beginning.{IsNewWorld}
use Rattle.core_steps.proofs.Sound.{sound}
use Rattle.core_steps.proofs.Legs.{are_new_tasks}
use Rattle.core_steps.proofs.Beginning.{is_world, is_new, new_world}
use Rattle.core_steps.proofs.world.World.new.Goals as goal

pub invariant_of-world : goal.invariant_of-world
invariant_of-world c =
    let until = until_in c.from.result in
    let g = given_data c.args.given until in
    let tasks = c.in_ok-tasks.tasks.items in
    let begin : BeginLeg g.plan g.input g.start g.layout.stages (layout_in g) tasks = subst (λ n. BeginLeg g.plan g.input g.start g.layout.stages (layout_to g.plan g.input n g.saves g.until g.layout.stages) tasks) c.number.ensures c.in_ok-tasks.ensures.begin in
    let s = sound g (record { plan = c.columns-columns.ensures.sound; input = c.sources-sources.ensures.sound; orderly = c.sources-sources.ensures.orderly; belongs = c.requires.belongs; laid_out = c.requires.laid_out; starts = c.requires.starts; stops = c.in_ok-tasks.ensures.stops; saves = c.in_ok-tasks.ensures.saves }) in
    is_world g tasks c.in_ok-rings.rings s (are_new_tasks g tasks s c.requires.belongs begin) c.in_ok-rings.ensures

pub returns-clause-opens : goal.returns-clause-opens
returns-clause-opens c =
    let until = until_in c.from.result in
    let g = given_data c.args.given until in
    let tasks = c.in_ok-tasks.tasks.items in
    let begin : BeginLeg g.plan g.input g.start g.layout.stages (layout_in g) tasks = subst (λ n. BeginLeg g.plan g.input g.start g.layout.stages (layout_to g.plan g.input n g.saves g.until g.layout.stages) tasks) c.number.ensures c.in_ok-tasks.ensures.begin in
    let s = sound g (record { plan = c.columns-columns.ensures.sound; input = c.sources-sources.ensures.sound; orderly = c.sources-sources.ensures.orderly; belongs = c.requires.belongs; laid_out = c.requires.laid_out; starts = c.requires.starts; stops = c.in_ok-tasks.ensures.stops; saves = c.in_ok-tasks.ensures.saves }) in
    subst (λ u. IsNewWorld (given_data c.args.given u) (new_world g tasks c.in_ok-rings.rings)) c.from.ensures (is_new g tasks c.in_ok-rings.rings (are_new_tasks g tasks s c.requires.belongs begin) c.in_ok-rings.ensures)
