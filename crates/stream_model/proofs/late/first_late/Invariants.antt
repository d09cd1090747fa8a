use Rattle.std.proofs.Common.{◌≡◌, drop}
use Rattle.stream_model.specs.Late.{first_late_entry, first_at}
use Rattle.stream_model.proofs.LateRecords.{moved}
use Rattle.stream_model.proofs.late.first_late.Given as goal

abbrev pub invariant-loop-place : goal.invariant-loop-place
invariant-loop-place l = moved l.place (first_at (first_at (first_late_entry l.time)) (drop l.place l.sources)) ≡ first_at (first_at (first_late_entry l.time)) l.sources
