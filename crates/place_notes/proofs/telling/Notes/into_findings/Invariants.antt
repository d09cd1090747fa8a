use Rattle.std.proofs.Common.{◌≡◌}
use Rattle.place_notes.proofs.telling.Notes.into_findings.Given as goal

abbrev pub invariant-loop-note : goal.invariant-loop-note
invariant-loop-note l = l.found.end ≡ l.end
