use Rattle.std.proofs.Common.{◌≡◌, ◌-◌, ◌^◌, min, length, take}
use Rattle.stream_model.specs.InputData.{all_records}
use Rattle.stream_model.proofs.count.is_few.Given as goal

abbrev pub invariant-loop-source : goal.invariant-loop-source
invariant-loop-source l = l.total ≡ min (length (all_records (take l.source-index l.sources))) (2 ^ 64 - 1)
