use Rattle.std.proofs.Common.{◌≡◌, ◌+◌, ◌-◌, ◌^◌, min, length, take}
use Rattle.stream_model.specs.InputData.{records_in}
use Rattle.legs.proofs.counting.with_records.Given as goal

abbrev pub invariant-loop-entry : goal.invariant-loop-entry
invariant-loop-entry l = l.total ≡ min (l.count + length (records_in (take l.entry-index l.entries))) (2 ^ 64 - 1)
