use Rattle.std.proofs.Common.{◌≡◌, take}
use Rattle.plain_data.specs.Record.{column_of}
use Rattle.stream_model.specs.InputData.{records_in}
use Rattle.input_cuts.specs.Extents.{times_of}
use Rattle.input_cuts.proofs.extent.times_of.Given as goal

abbrev pub invariant-loop-entry : goal.invariant-loop-entry
invariant-loop-entry l = l.times ≡ times_of (column_of l.time (records_in (take l.entry-index l.entries)))
