use Rattle.std.proofs.Common.{◌≡◌, map}
use Rattle.asked_fields.proofs.asked.parts_of.Given as goal

abbrev pub invariant-loop-part : goal.invariant-loop-part
invariant-loop-part l = map (λ part. part.now) l.parts.items ≡ map (λ part. part.now) l.yielded
