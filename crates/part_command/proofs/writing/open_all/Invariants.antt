use Rattle.part_command.specs.Writing.{AreOpened}
use Rattle.part_command.proofs.writing.open_all.Given as goal

abbrev pub invariant-loop-file : goal.invariant-loop-file
invariant-loop-file g l = AreOpened l.file-index l.texts.items
