use Rattle.std.proofs.Common.{ap}
use Rattle.text_places.proofs.part.Placed.parts.Goals as goal
use Rattle.text_places.proofs.part.Placed.parts.Goals.{else-loop-i-test, then-loop-i-test+in_ok-put_value+then-depth-eq0}

pub returns : goal.returns
returns c =
    elim c.loop-i-test.branch [
      | else-loop-i-test w ↦ rw (ap (λ v. v.items) w.parts-is) c.loop-i.invariant.parts
      | then-loop-i-test+in_ok-put_value+then-depth-eq0 w ↦ rw (ap (λ v. v.items) w.parts-is) (w.in_ok-put_value.ensures c.loop-i.invariant.parts)
    ]
