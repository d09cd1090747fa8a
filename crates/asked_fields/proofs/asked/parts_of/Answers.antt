use Rattle.std.proofs.Common.{◌≡◌, ◌==◌, ◌∙◌, ℕ, ap}
use Rattle.std.proofs.lemmas.Iterator.Consumers.{YieldsList-at, YieldsList-end}
use Rattle.std.proofs.lemmas.Iterator.Splits.{YieldsList-from_str_split}
use Rattle.std.specs.List.{slice_split}
use Rattle.asked_fields.proofs.asked.parts_of.Goals as goal

pub returns : goal.returns
returns c =
    let road = YieldsList-from_str_split c.mark.result c.args.name.now c.mark.ensures.small c.split-part-items.ensures.text c.split-part-items.ensures.has_more c.split-part-items.ensures.pattern in
    let end = YieldsList-end (YieldsList-at c.into_iter-part-iterator.ensures.into_iter_gives road) c.loop-part.yielded _ c.loop-part.yielded_by _ _ c.in-None.is c.next.ensures.steps in
    c.loop-part.invariant ∙ end.0 ∙ ap (λ (mark : ℕ). slice_split (λ b. b == mark) c.args.name.now) c.mark.ensures.is
