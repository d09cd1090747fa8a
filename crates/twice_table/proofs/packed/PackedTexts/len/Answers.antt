use Rattle.std.proofs.Common.{ap, length, arith}
use Rattle.twice_table.proofs.Cuts.{length_cut}
use Rattle.twice_table.proofs.packed.PackedTexts.len.Goals as goal

pub returns : goal.returns
returns c = omega (arith, length_cut 0 c.self.inside.ends.items c.self.inside.bytes.items, ap length c.self.view_is)
