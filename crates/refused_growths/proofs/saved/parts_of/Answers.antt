use Rattle.std.proofs.Common.{subst, sym}
use Rattle.gather.specs.Parts.{AreParts}
use Rattle.refused_growths.proofs.saved.parts_of.Goals as goal

pub returns : goal.returns
returns c = subst (AreParts c.args.plan.now c.args.layout.now.stages) (sym c.in_ok-spread.ensures) (c.spread_are_parts-parts.ensures c.args.plan.now c.args.layout.now.stages c.args.start.now c.requires.groups)
