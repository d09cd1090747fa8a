use Rattle.place_notes.specs.Notes.{TellsMore}
use Rattle.plan_places.proofs.uids.tell_repeated.Given as goal

abbrev pub invariant-loop-uid : goal.invariant-loop-uid
invariant-loop-uid l = TellsMore l.fn.notes l.notes
