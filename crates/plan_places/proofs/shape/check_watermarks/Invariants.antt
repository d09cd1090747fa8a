use Rattle.place_notes.specs.Notes.{TellsMore}
use Rattle.plan_places.proofs.shape.check_watermarks.Given as goal

abbrev pub invariant-loop-i : goal.invariant-loop-i
invariant-loop-i l = TellsMore l.fn.notes l.notes
