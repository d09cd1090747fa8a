use Rattle.row_commands.specs.Telling.{HasTexts}
use Rattle.row_commands.proofs.merging.texts_of.Given as goal

abbrev pub invariant-loop-place : goal.invariant-loop-place
invariant-loop-place g l = HasTexts g.R.File.Read.remaining l.place l.merge
