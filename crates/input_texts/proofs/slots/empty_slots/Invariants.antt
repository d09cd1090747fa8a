use Rattle.std.proofs.Common.{◌≡◌, map, take, None}
use Rattle.input_texts.proofs.slots.empty_slots.Given as goal

abbrev pub invariant-loop-spec : goal.invariant-loop-spec
invariant-loop-spec g l = l.slots.items ≡ map (λ s. None) (take l._spec-index l.specs)
