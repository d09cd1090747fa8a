use Rattle.gather.proofs.Spread.{spread_are_parts}
use Rattle.gather.proofs.laws.spread_are_parts.Goals as goal

pub returns : goal.returns
returns c = spread_are_parts
