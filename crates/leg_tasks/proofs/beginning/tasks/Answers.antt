use Rattle.std.proofs.Common.{sym, ap, subst}
use Rattle.stream_model.specs.InputData.{InputData}
use Rattle.layout_rules.specs.Rules.{IsCompiled}
use Rattle.layout_rules.proofs.Facts.{compiled_ever}
use Rattle.dataflow_model.specs.Leg.{Until}
use Rattle.dataflow_model.specs.Leg.Until.{ToEnd, ToCut, TillAsked}
use Rattle.legs.specs.Stops.{until_in}
use Rattle.dataflow_laws.specs.Compiled.{layout_to}
use Rattle.redistribute.specs.StartData.{StartData, offsets_of}
use Rattle.redistribute.specs.Stopping.{CanGo}
use Rattle.task_setups.specs.Laws.{IsWithin}
use Rattle.task_setups.specs.Legs.{counts_of}
use Rattle.leg_tasks.specs.Beginning.{BeginLeg}
use Rattle.leg_tasks.proofs.Starting.{new_tasks_begin}
use Rattle.leg_tasks.proofs.beginning.tasks.Goals as goal

-- a leg that can go to a cut goes to one of the input
stays_within : (i : InputData) (s : StartData) (until : Until) → CanGo i.sources (offsets_of s) until → IsWithin i until
stays_within i s ToEnd can = tt
stays_within i s (ToCut cut) can = can.0
stays_within i s TillAsked can = tt

pub returns-clause-begin : goal.returns-clause-begin
returns-clause-begin c =
    let p = c.args.plan.now in
    let i = c.args.input.now in
    let s = c.args.start.now in
    let l = c.args.layout.now in
    let leg = c.args.leg.now in
    let made = c.requires.laid_out in
    let compiled : IsCompiled p made.scale l.stages = subst (IsCompiled p made.scale) (sym (ap (λ m. m.stages) made.is)) (compiled_ever p made.scale) in
    subst (BeginLeg p i s l.stages (layout_to p i leg.number (counts_of leg.saves.now) (until_in leg.until) l.stages)) (sym c.in_ok-tasks_from.ensures)
    (new_tasks_begin p made.scale i s leg.number (counts_of leg.saves.now) (until_in leg.until) l.stages c.columns-columns.ensures.sound made.fits compiled c.requires.belongs c.in_ok-check_saves_until.ensures.cuts (stays_within i s (until_in leg.until) c.in_ok-check_until.ensures))
