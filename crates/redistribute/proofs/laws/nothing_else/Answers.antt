use Rattle.redistribute.proofs.Dealt.{nothing_else}
use Rattle.redistribute.proofs.laws.nothing_else.Goals as goal

pub returns : goal.returns
returns c = nothing_else
