use Rattle.place_notes.specs.Notes.{TellsMore}
use Rattle.plan_places.proofs.check.tell_places.Given as goal

abbrev pub invariant-loop-next : goal.invariant-loop-next
invariant-loop-next l = TellsMore l.fn.notes l.notes
