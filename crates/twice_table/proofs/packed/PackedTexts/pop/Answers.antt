use Rattle.std.proofs.Common.{length, ◌-◌}
use Rattle.twice_table.proofs.Cuts.{ends_take, cut_take, length_cut}
use Rattle.twice_table.proofs.packed.PackedTexts.pop.Goals as goal

pub invariant_of-self : goal.invariant_of-self
invariant_of-self c = rw (c.pop.ensures.rest) (ends_take 0 c.self.inside.ends.items (length c.self.inside.bytes.items) _ c.self.invariant)

pub returns : goal.returns
returns c =
    let kept = c.self.inside.ends.ok.0 in
    let e = cut_take 0 c.self.inside.ends.items c.self.inside.bytes.items (length c.self.inside.ends.items - 1) in
    let n = length_cut 0 c.self.inside.ends.items c.self.inside.bytes.items in
    rw (c.pop.ensures.rest, kept, ← c.self.view_is, n) e
