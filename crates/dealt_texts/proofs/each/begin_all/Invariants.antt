use Rattle.dealt_texts.specs.Parts.{with_marks, closed}
use Rattle.dealt_texts.proofs.OneByOne.{Done}
use Rattle.dealt_texts.proofs.each.begin_all.Given as goal

abbrev pub invariant-loop-place : goal.invariant-loop-place
invariant-loop-place l = Done (λ i p. with_marks l.mark (closed p)) l.place l.fn.texts l.texts
