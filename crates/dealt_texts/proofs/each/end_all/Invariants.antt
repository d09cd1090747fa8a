use Rattle.dealt_texts.specs.Parts.{whole}
use Rattle.dealt_texts.proofs.OneByOne.{Done}
use Rattle.dealt_texts.proofs.each.end_all.Given as goal

abbrev pub invariant-loop-place : goal.invariant-loop-place
invariant-loop-place l = Done (λ i p. whole p) l.place l.fn.texts l.texts
