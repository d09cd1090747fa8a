-- What a plan's layout and an input that was read come to is sound.
use Rattle.std.proofs.Common.{◌<◌, sym, ap, subst}
use Rattle.dataflow_laws.proofs.Facts.{input_is_admitted}
use Rattle.layout_rules.specs.Rules.{IsCompiled}
use Rattle.layout_rules.proofs.Facts.{compiled_ever, compiled_is_layout, sink_is_last}
use Rattle.plan_compiler.specs.LayoutData.{LayoutData}
use Rattle.input_flow.specs.InputEntries.{entries_of}
use Rattle.dataflow_model.specs.Leg.{leg_of}
use Rattle.redistribute.proofs.Facts.{tasks_open}
use Rattle.core_steps.specs.Given.{GivenData, layout_in}
use Rattle.core_steps.specs.World.{IsGiven, IsSound}

-- the stages of its layout are those of a scale
pub compiled : (g : GivenData) (given : IsGiven g) → IsCompiled g.plan given.laid_out.scale g.layout.stages
compiled g given = subst (IsCompiled g.plan given.laid_out.scale) (sym (ap (λ (l : LayoutData). l.stages) given.laid_out.is)) (compiled_ever g.plan given.laid_out.scale)

pub sound : (g : GivenData) → IsGiven g → IsSound g
sound g given =
    let plan = given.plan in
    let laid = given.laid_out in
    let c = laid.scale in
    let all = compiled_is_layout g.plan c (entries_of g.input) (leg_of g.start.number g.saves g.until (entries_of g.input).size) g.layout.stages plan laid.fits (compiled g given) in
    record {
      given = given;
      layout = all.0;
      count = sink_is_last g.plan c g.layout.stages plan laid.fits (compiled g given);
      start = tasks_open g.plan g.layout g.input g.start g.saves g.until plan laid given.belongs given.starts given.stops given.saves;
      input = input_is_admitted g.plan g.input (leg_of g.start.number g.saves g.until (entries_of g.input).size) (layout_in g) given.input given.belongs all.1;
      capacity = subst (λ n. 0 < n) (sym (ap (λ (l : LayoutData). l.capacity) laid.is)) laid.fits.capacity.some;
    }
