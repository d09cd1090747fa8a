use Rattle.std.proofs.Common.{◌≡◌, map, take}
use Rattle.input_texts.specs.Said.{marked_of}
use Rattle.stream_input.proofs.building.partition_of.Given as goal

abbrev pub invariant-loop-text : goal.invariant-loop-text
invariant-loop-text l = l.entries.items ≡ map (marked_of l.marking.bound l.marking.columns l.marking.time) (take l.text-index l.texts)
