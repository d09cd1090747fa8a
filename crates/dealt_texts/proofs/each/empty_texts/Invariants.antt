use Rattle.std.proofs.Common.{◌≡◌, replicate}
use Rattle.dealt_texts.specs.Parts.{nothing}
use Rattle.dealt_texts.proofs.each.empty_texts.Given as goal

abbrev pub invariant-loop-place : goal.invariant-loop-place
invariant-loop-place l = l.texts.items ≡ replicate l._place nothing
