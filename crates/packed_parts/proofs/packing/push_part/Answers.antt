use Rattle.std.proofs.Common.{ap, ◌∙◌, length}
use Rattle.aggregates.proofs.Accs.{length-numbers}
use Rattle.packed_parts.proofs.packing.push_part.Goals as goal

pub push-requires : goal.push-requires
push-requires c =
    let a = c.args.part.now.acc in
    ap length c.numbers.ensures ∙ length-numbers a.total.count a.kinds a.total.numbers c.count.ensures.sound.numbers ∙ c.requires
