use Rattle.std.proofs.Common.{refl, rules}
use Rattle.input_texts.proofs.Saturated.{behind_kept, next_fits}
use Rattle.input_texts.proofs.noting.behind.Goals as goal

pub returns : goal.returns
returns c =
    let bound = c.args.bound in
    let next = next_fits bound c.ranges.bound c.requires.bounded.0 c.requires.bounded.1 in
    behind_kept c.args.watermark c.args.time bound _ c.saturating_sub.result c.max.result c.ranges.watermark c.ranges.time c.ranges.bound next (search rules) (search rules) c.requires.bounded.0 refl c.saturating_sub.ensures
    c.max.ensures.value
