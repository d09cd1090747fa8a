use Rattle.place_notes.specs.Notes.{TellsMore}
use Rattle.place_notes.proofs.forms.check_parts.Given as goal

abbrev pub invariant-loop-part : goal.invariant-loop-part
invariant-loop-part l = TellsMore l.fn.notes l.notes

abbrev pub invariant-loop-rule : goal.invariant-loop-rule
invariant-loop-rule l = TellsMore l.fn.notes l.notes
