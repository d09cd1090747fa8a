use Rattle.std.proofs.Common.{subst}
use Rattle.dataflow_model.specs.Leg.Until.{TillAsked}
use Rattle.dataflow_laws.specs.Compiled.{layout_to}
use Rattle.redistribute.proofs.Facts.{no_saves}
use Rattle.redistribute.specs.StartData.{offsets_of}
use Rattle.leg_tasks.specs.Beginning.{BeginLeg}
use Rattle.core_steps.specs.Given.{given_asked, layout_in}
use Rattle.core_steps.proofs.Sound.{sound}
use Rattle.core_steps.proofs.Legs.{are_new_tasks}
use Rattle.core_steps.proofs.asked.tasks_asked.Goals as goal

pub returns-in-Ok-clause-sound : goal.returns-in-Ok-clause-sound
returns-in-Ok-clause-sound c =
    let g = given_asked c.args.plan.now c.args.input.now c.args.start.now c.args.layout.now in
    sound g (record { plan = c.columns-columns.ensures.sound; input = c.sources-sources.ensures.sound; orderly = c.sources-sources.ensures.orderly; belongs = c.requires.belongs; laid_out = c.requires.laid_out; starts = c.requires.starts; stops = tt; saves = no_saves g.input.sources (offsets_of g.start) TillAsked })

pub returns-in-Ok-clause-new : goal.returns-in-Ok-clause-new
returns-in-Ok-clause-new c =
    let g = given_asked c.args.plan.now c.args.input.now c.args.start.now c.args.layout.now in
    let s = sound g (record { plan = c.columns-columns.ensures.sound; input = c.sources-sources.ensures.sound; orderly = c.sources-sources.ensures.orderly; belongs = c.requires.belongs; laid_out = c.requires.laid_out; starts = c.requires.starts; stops = tt; saves = no_saves g.input.sources (offsets_of g.start) TillAsked }) in
    let tasks = c.in-Ok.tasks.items in
    let begin : BeginLeg g.plan g.input g.start g.layout.stages (layout_in g) tasks = subst (λ n. BeginLeg g.plan g.input g.start g.layout.stages (layout_to g.plan g.input n g.saves g.until g.layout.stages) tasks) c.number.ensures c.in-Ok.ensures.begin in
    are_new_tasks g tasks s c.requires.belongs begin
