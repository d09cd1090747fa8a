use Rattle.std.proofs.Common.{◌≡◌, take, length}
use Rattle.stream_model.specs.InputData.{records_in}
use Rattle.input_cuts.proofs.extent.count_of.Given as goal

abbrev pub invariant-loop-entry : goal.invariant-loop-entry
invariant-loop-entry l = l.count ≡ length (records_in (take l.entry-index l.entries))
